-- Invariant: the weights of the first i units are written.
use mathlib.Core.Path.{◌≡◌}
use mathlib.Core.List.{map}
use lib.ListN.{take}
use Rattle.sheet.specs.Layout.{sheet_of}
use Rattle.sheet.specs.Inner.Fields.{row_field}
use Rattle.charges.proofs.models.gather.Given as goal

abbrev pub invariant-loop-i : goal.invariant-loop-i
invariant-loop-i l = take l.i l.weights ≡ map (λ u. row_field u l.field) (take l.i (sheet_of l.sheet.bytes.now).units)

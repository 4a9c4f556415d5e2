use mathlib.Core.Path.{◌≡◌}
use mathlib.Core.Bool.{true}
use lib.ListN.{take}
use Rattle.sheet.specs.Layout.{sheet_of}
use Rattle.weights.proofs.Rows.{chosen}
use Rattle.settlement.proofs.heat.heat_by_meters.Given as goal

-- the readings of the units passed
abbrev pub invariant-loop-i : goal.invariant-loop-i
invariant-loop-i l = take l.i l.heat-items ≡ chosen (λ u. true) (λ u. u.reading) (take l.i (sheet_of l.sheet.bytes.now).units)

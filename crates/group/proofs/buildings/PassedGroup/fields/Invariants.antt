-- Invariant: the figures of the first i buildings are written.
use mathlib.Core.Path.{◌≡◌}
use mathlib.Core.List.{map}
use lib.ListN.{take}
use Rattle.sheet.specs.Inner.Fields.{header_field}
use Rattle.group.proofs.Parts.{sheets}
use Rattle.group.proofs.buildings.PassedGroup.fields.Given as goal

abbrev pub invariant-loop-i : goal.invariant-loop-i
invariant-loop-i l = take l.i l.out ≡ take l.i (map (λ s. header_field s l.field) (sheets l.self.group.sheets.now l.self.group.buildings.now))

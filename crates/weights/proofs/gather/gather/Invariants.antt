use mathlib.Core.Path.{◌≡◌}
use Prim.Native.Nat.{◌≤◌}
use lib.ListN.{length, take}
use Rattle.sheet.specs.Layout.{sheet_of}
use Rattle.weights.specs.Inner.By.{takes_part, weight_of}
use Rattle.weights.proofs.Rows.{chosen}
use Rattle.weights.proofs.gather.gather.Given as goal

-- the weights of the units so far that take part
abbrev pub invariant-loop-row : goal.invariant-loop-row
invariant-loop-row l = (l.m ≤ length l.yielded) × (take l.m l.out ≡ chosen (takes_part l.by) (weight_of l.basis.rules l.by (sheet_of l.basis.sheet.bytes.now)) (take (length l.yielded) (sheet_of l.basis.sheet.bytes.now).units))

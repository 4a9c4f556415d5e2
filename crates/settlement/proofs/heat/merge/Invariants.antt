use mathlib.Core.Path.{◌≡◌}
use mathlib.Core.List.{◌++◌}
use Prim.Native.Nat.{◌≤◌}
use lib.ListN.{take, drop}
use Rattle.sheet.specs.Layout.{sheet_of}
use Rattle.settlement.proofs.Order.{order}
use Rattle.settlement.proofs.heat.merge.Given as goal

-- what is written, then what is left of the two lists in the order of the units left, is the whole
abbrev pub invariant-loop-i : goal.invariant-loop-i
invariant-loop-i l =
    (l.q ≤ l.i) × ((l.r ≤ l.i) × (take l.i l.out ++ order (drop l.i (sheet_of l.sheet.bytes.now).units) (drop l.q l.unread) (drop l.r l.read) ≡ order (sheet_of l.sheet.bytes.now).units l.unread l.read))

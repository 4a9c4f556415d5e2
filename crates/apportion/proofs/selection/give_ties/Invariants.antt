-- `give_ties` meets its contract: what is written and what is still given to the rest make the whole list.
use mathlib.Core.Path.{◌≡◌}
use mathlib.Core.List.{◌++◌}
use Prim.Native.Nat.{ℕ, ◌-◌, ◌^◌, ◌≤◌, ◌<◌}
use lib.ListN.{length, take, drop, get_or}
use Rattle.apportion.specs.Shares.{added}
use Rattle.apportion.specs.Inner.Selection.{given_ties}
use Rattle.apportion.proofs.selection.give_ties.Given as goal

abbrev pub invariant-loop-i : goal.invariant-loop-i
invariant-loop-i l =
    (length l.out ≡ length l.keys)
    × ((j : ℕ) → l.i ≤ j → get_or l.out j 0 < 2 ^ 32 - 1)
    × (take l.i l.out ++ added (drop l.i l.out) (given_ties l.cut.theta l.left (drop l.i l.keys)) ≡ added l.initial.out (given_ties l.cut.theta l.cut.spare l.keys))

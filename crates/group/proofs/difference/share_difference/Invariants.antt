-- Invariant: the areas passed are turned and have their part of the rest, the others are as they were.
use Prim.Native.Nat.{ℕ, ◌+◌, ◌*◌}
use Rattle.apportion.proofs.Replacing.{Replaced}
use Rattle.group.proofs.difference.share_difference.Given as goal

abbrev pub turned_with : ℕ → ℕ → ℕ → ℕ
turned_with turns area part = turns * area + part

abbrev pub invariant-loop-i : goal.invariant-loop-i
invariant-loop-i l = Replaced (turned_with l.turns) l.fn.areas l.rest l.i l.areas

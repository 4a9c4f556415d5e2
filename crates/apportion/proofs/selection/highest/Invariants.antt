-- `highest` is safe.
use Prim.Native.Nat.{◌*◌, ◌^◌, ◌≤◌}
use lib.ListN.{length}
use Rattle.apportion.proofs.selection.highest.Given as goal

abbrev pub invariant-loop-b : goal.invariant-loop-b
invariant-loop-b l = l.above ≤ 2 ^ 32 * length l.yielded

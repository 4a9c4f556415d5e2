use Rattle.std.proofs.Common.{◌≡◌, ◌+◌, ◌<◌, ◌^◌, ℕ, length}
use Rattle.std.specs.Prelude.{slice_get, Some}
use Rattle.console.proofs.count_up.Given as goal

abbrev pub invariant-loop-i : goal.invariant-loop-i
invariant-loop-i l = (length l.list < 2 ^ 32) × ((k : ℕ) → k < l.i → slice_get l.list k ≡ Some (k + 1))

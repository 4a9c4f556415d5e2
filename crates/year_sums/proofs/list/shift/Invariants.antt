use mathlib.Core.Path.{◌≡◌}
use Prim.Native.Nat.{ℕ, ◌<◌, ◌≤◌}
use lib.ListN.{get_or}
use Rattle.year_sums.specs.YearSums.{updated}
use Rattle.year_sums.proofs.list.shift.Given as goal

abbrev pub invariant-loop-k : goal.invariant-loop-k
invariant-loop-k l = record {
  changed : (j : ℕ) → j < l.k → get_or l.sums j 0 ≡ get_or (updated l.fn.sums l.old l.new) j 0;
  left : (j : ℕ) → l.k ≤ j → get_or l.sums j 0 ≡ get_or l.fn.sums j 0;
}

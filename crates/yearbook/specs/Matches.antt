-- 2026-02: "If it matches the months before a call, it matches after, for every list of calls from an open." proofs/Matches.antt proves it.
use Rattle.std.specs.Prelude.{◌≡◌, List, ℕ, ◌+◌, ◌<◌, length, get_or, Ok}
use Rattle.month.specs.Laws.{sum_to}
use Rattle.year_sums.specs.YearSums.{sums_length}
use Rattle.yearbook.specs.Calls.{Call, Reply}
use Rattle.yearbook.specs.LentBook.{Lent, mark_at, block_at, block_length, if_marked, Opens, Answered}

-- one number of the blocks, summed over the months whose mark is 1
unfoldable pub block_sum : List ℕ → ℕ → ℕ
block_sum b at = sum_to 12 (λ i. if_marked (get_or b (mark_at i) 0) (get_or b (block_at i + at) 0))

-- the list matches the months: 1,280 numbers, at each place that sum
pub record Matches (l : Lent) : Type 0 where
  pub size : length l.sums ≡ sums_length
  pub each : (at : ℕ) → at < block_length → get_or l.sums at 0 ≡ block_sum l.book at

-- an accepted opening leaves lists that match
abbrev pub OpenedMatch : Type 0
OpenedMatch = (before after : Lent) (sheet : List ℕ) → Opens before sheet (Ok tt) after → Matches after

-- any call, whatever its answer, on any book, whatever it holds
abbrev pub MatchKept : Type 0
MatchKept = (l l' : Lent) (c : Call) (r : Reply) → Answered l c r l' → Matches l → Matches l'

-- Computed cases of what the year call reads and of what the sums must match (2026-02).
use Rattle.std.specs.Prelude.{◌≡◌, refl, List, [], ◌∷◌, ◌++◌, map, ℕ, replicate}
use Rattle.month.specs.Laws.{sum_to}
use Rattle.yearbook.specs.LentBook.{sums_at}
use Rattle.yearbook.specs.Matches.{block_sum}

-- ---- the year call reads
sums-read : sums_at (0 ∷ 1 ∷ 2 ∷ 3 ∷ 4 ∷ 5 ∷ 6 ∷ 7 ∷ 8 ∷ 9 ∷ 10 ∷ 11 ∷ 12 ∷ 13 ∷ 14 ∷ 15 ∷ 16 ∷ []) 1 ≡ 8 ∷ 9 ∷ 10 ∷ 11 ∷ 12 ∷ 13 ∷ 14 ∷ 15 ∷ []
unfolding sums_at
sums-read = refl

-- ---- the match: months 1, 3 and 12 stand, whose blocks hold 5, 70 and 1,000 at every place; month 2 doesn't, and its block holds 6
abbrev book : List ℕ
book =
    2 ∷ 1 ∷ 0 ∷ 1 ∷ (replicate 8 0 ++ 1 ∷ replicate 184 0)
    ++ replicate 1280 5 ++ replicate 1280 6 ++ replicate 1280 70 ++ replicate 10240 0 ++ replicate 1280 1000

to_match : map (block_sum book) (0 ∷ 1279 ∷ []) ≡ 1075 ∷ 1075 ∷ []
unfolding block_sum sum_to
to_match = refl

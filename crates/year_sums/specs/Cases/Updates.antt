-- Computed cases of an update, and of refusal 19.
use Rattle.std.specs.Prelude.{◌≡◌, refl, Bool, true, false, ℕ, replicate}
use mathlib.Core.List.{List, [], ◌∷◌, ◌++◌, map, zip_with}
use Rattle.sheet.specs.Tests.{any}
use Rattle.year_sums.specs.YearSums.{updated, bad_sums}

-- old numbers off, new ones on
updated-right : updated (7 ∷ 10 ∷ 20 ∷ []) (2 ∷ 10 ∷ 0 ∷ []) (1 ∷ 4 ∷ 5 ∷ []) ≡ 6 ∷ 4 ∷ 25 ∷ []
unfolding updated zip_with
updated-right = refl

-- ---- 19
-- a sum, its old number and its new one at one place of a list, zeros at all others
pub record Place : Type 0 where
  pub sum : ℕ
  pub old : ℕ
  pub new : ℕ

infix 70 ◌less◌and◌
abbrev pub ◌less◌and◌ : (sum old new : ℕ) → Place
sum less old and new = record { sum = sum; old = old; new = new }

-- with as many zeros before it and behind it
abbrev at : (before behind x : ℕ) → List ℕ
at before behind x = replicate before 0 ++ x ∷ replicate behind 0

abbrev refused_at : (before behind : ℕ) → Place → Bool
refused_at before behind p = bad_sums (at before behind p.sum) (at before behind p.old) (at before behind p.new)

abbrev pub places : List Place
places =
    5 less 5 and 0  -- down to zero
    ∷ 4 less 5 and 0  -- below zero
    ∷ 4 less 5 and 100  -- and lifted again
    ∷ 18446744073709551614 less 0 and 1  -- the largest number of 64 bits
    ∷ 18446744073709551615 less 0 and 1  -- past it
    ∷ 18446744073709551615 less 1 and 1  -- there and back
    ∷ 18446744073709551615 less 1 and 2
    ∷ []

abbrev pub refused_of : List Bool
refused_of = false ∷ true ∷ true ∷ false ∷ true ∷ false ∷ true ∷ []

-- at the first place, at the last
first-place : map (refused_at 0 1279) places ≡ refused_of
unfolding bad_sums updated zip_with any
first-place = refl

last-place : map (refused_at 1279 0) places ≡ refused_of
unfolding bad_sums updated zip_with any
last-place = refl

-- 1,279, 1,280 and 1,281 numbers
lengths : map (λ behind. refused_at 0 behind (0 less 0 and 0)) (1278 ∷ 1279 ∷ 1280 ∷ []) ≡ true ∷ false ∷ true ∷ []
unfolding bad_sums updated zip_with any
lengths = refl

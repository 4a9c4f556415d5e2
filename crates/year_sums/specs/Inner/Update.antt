-- An update as code makes it.
use Rattle.std.specs.Prelude.{◌≡◌, Bool, ◌||◌, List, ℕ, ◌+◌, ◌*◌, ◌-◌, ◌≤◌, ◌<◌, ltb, length, get_or, if◌then◌else◌, Ok, Err}
use Rattle.std.specs.declared.option.Option.{Option}
use Rattle.std.specs.declared.result.Result.{Result}
use Rattle.std.specs.List.{list_any, zip}
use Rattle.std.specs.Option.{unwrap_or}
use Rattle.sheet.specs.declared.refusal.Refusal.{Refusal}
use Rattle.sheet.specs.declared.refusal.Refusal.TheVariants.{BadYearSums}
use Rattle.year_sums.specs.YearSums.{sums_length, most64, zero_sums, updated, bad_sums}

-- what is taken off: the old block, or zeros where there is none
abbrev pub old_or_zeros : Option (List ℕ) → List ℕ
old_or_zeros old = unwrap_or old zero_sums

-- a sum, what is taken off and what is added: below zero or past 64 bits
abbrev pub past_an_end : (sum old new : ℕ) → Bool
past_an_end sum old new = ltb sum old || ltb most64 (sum - old + new)

-- 19 but for the length, place by place
abbrev pub some_past_an_end : (sums old new : List ℕ) → Bool
some_past_an_end sums old new = list_any (λ p. past_an_end p.0.0 p.0.1 p.1) (zip (zip sums old) new)

-- blocks that go with sums, number by number
pub record SameLength (sums old new : List ℕ) : Type 0 where
  pub old-long : length old ≡ length sums
  pub new-long : length new ≡ length sums

-- an old block, and a new one of n units
pub record Blocks (old : List ℕ) (n : ℕ) (new : List ℕ) : Type 0 where
  pub old-full : length old ≡ sums_length
  pub few : n ≤ 160
  pub full : length new ≡ sums_length
  pub rest : (k : ℕ) → 8 * n ≤ k → get_or new k 0 ≡ 0

-- an old block has nothing but zeros from the place r on
pub record Reach (old : List ℕ) (front r : ℕ) : Type 0 where
  pub least : front ≤ r
  pub most : r ≤ sums_length
  pub rest : (k : ℕ) → r ≤ k → get_or old k 0 ≡ 0

-- The sum can lose its old number, and then has room for any number of 32 bits.
pub record Far (sum old : ℕ) : Type 0 where
  pub above : old ≤ sum
  pub room : sum - old < 9223372036854775808

abbrev pub AllFar : (sums old : List ℕ) → Type 0
AllFar sums old = (k : ℕ) → k < length sums → Far (get_or sums k 0) (get_or old k 0)

-- 19 or an update that was made; where it is refused, the sums stay
pub record Updates (sums old new : List ℕ) (made : Result (Unit {0}) Refusal) (after : List ℕ) : Type 0 where
  pub answer : made ≡ if bad_sums sums old new then Err BadYearSums else Ok tt
  pub written : after ≡ if bad_sums sums old new then sums else updated sums old new

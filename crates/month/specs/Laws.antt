-- The laws of a month: what holds of every sheet that settles, by all rules (`settled-laws`, proofs/Laws.antt); which divisions a month makes, by all rules
-- (`no_other_divisions`, proofs/Divisions.antt); which months versions 1 and 2, and versions 2 and 3, settle alike (`alike_but_for_risers`, `alike_but_for_ties`, proofs/Versions.antt); that
-- H rounded up refuses the sheets that the exact H does (`same-refusals`, proofs/Rounding.antt).
use Rattle.std.specs.Prelude.{Bool, false, ◌≡◌, List, [], ◌∷◌, ◌++◌, map, ℕ, zero, suc, ◌+◌, ◌*◌, ◌-◌, ◌≤◌, ◌<◌, ltb, eqb, ℤ, pos, negsuc, ◌-ℤ◌, length, get_or, if◌then◌else◌}
use Rattle.apportion.specs.Shares.{sum}
use Rattle.apportion.specs.Fair.{NoLaterLarger}
use Rattle.sheet.specs.Tests.{Each}
use Rattle.sheet.specs.declared.rule_set.RuleSet.{RuleSet}
use Rattle.sheet.specs.declared.rule_set.RuleSet.TheVariants.{Archive1, Archive2, Archive3}
use Rattle.sheet.specs.Layout.{Sheet, sheet_of}
use Rattle.month.specs.Fraction.{Fraction, Near}
use Rattle.month.specs.Weights.{unread_units, all_metered, metered_sum, unread_weights, pool_weight, reading_sum, read_weights, water_weight, common_water_weight}
use Rattle.month.specs.Steps.{Method, shares_under, dividing_by, whole_wh, unrounded, item, hot_water, space_heat, heat_parts, pool_shares, water_parts, energies_with, energies}
use Rattle.month.specs.Month.{hot_water_wh, space_heat_wh, bill_cents, costs, Month, month_of, settled, settled_sheet}
use Rattle.month.specs.Portions.{energy_portion, bill_part}

-- ---- the divisions of a month, in the order of the steps
pub record Division : Type 0 where
  pub total : ℕ
  pub weights : List ℕ

infix 70 ◌by◌
abbrev pub ◌by◌ : ℕ → List ℕ → Division
total by weights = record { total = total; weights = weights }

-- steps 3 and 4: units' heat by q, by p, or over the units not read and the metered pool, then the pool over the read units
unfoldable pub units_heat_divisions : RuleSet → Sheet → List Division
units_heat_divisions rules s =
    let unitsHeat = (heat_parts whole_wh rules s).of_units in
    let pool = item whole_wh (length (unread_units s)) (pool_shares whole_wh rules s) in
    if eqb s.model 1 then unitsHeat by map (λ u. u.heat_load) s.units ∷ []
    else if eqb s.model 2 then unitsHeat by map (λ u. u.heated_area) s.units ∷ []
    else unitsHeat by (unread_weights s ++ pool_weight s ∷ []) ∷ pool by read_weights rules s ∷ []

-- steps 2 to 4: nothing is divided where every meter is read
unfoldable pub heat_divisions : RuleSet → Sheet → List Division
heat_divisions rules s =
    if all_metered s then []
    else space_heat_wh s by ((100 - s.common_heat_percent) ∷ s.common_heat_percent ∷ []) ∷ units_heat_divisions rules s

-- where step 5 divides `common` and step 7 `bill`
unfoldable pub divisions_with : RuleSet → Sheet → (common bill : ℕ) → List Division
divisions_with rules s common bill =
    heat_divisions rules s
    ++ common by map (λ u. u.heated_area) s.units  -- 5
    ∷ hot_water_wh s by ((100 - s.common_water_percent) ∷ s.common_water_percent ∷ [])  -- 6
    ∷ (water_parts whole_wh rules s).of_units by map (water_weight s) s.units
    ∷ (water_parts whole_wh rules s).common by map common_water_weight s.units
    ∷ bill by energies_with whole_wh rules s common  -- 7
    ∷ []

abbrev pub divisions : RuleSet → Sheet → List Division
divisions rules s = divisions_with rules s (heat_parts whole_wh rules s).common (bill_cents s)

-- not W = 0 with T > 0
abbrev pub Divisible : Division → Type 0
Divisible d = sum d.weights ≡ 0 → d.total ≡ 0

-- The month of any sheet makes these divisions and no others: by a method that does as `shares_under` on them it comes out the same.
abbrev pub DoesAsShares : RuleSet → Method → Division → Type 0
DoesAsShares rules divide d = divide rules d.total d.weights ≡ shares_under rules d.total d.weights

pub record SameMonth (rules : RuleSet) (s : Sheet) (divide : Method) : Type 0 where
  pub same-energies : energies (dividing_by divide) rules s ≡ energies whole_wh rules s
  pub same-costs : divide rules (bill_cents s) (energies (dividing_by divide) rules s) ≡ costs rules s

abbrev pub NoOtherDivisions : Type 0
NoOtherDivisions = (rules : RuleSet) (s : Sheet) (divide : Method) → Each (DoesAsShares rules divide) (divisions rules s) → SameMonth rules s divide

-- ---- a settled month
-- f 0 + .. + f (k − 1)
unfoldable pub sum_to : ℕ → (ℕ → ℕ) → ℕ
sum_to zero f = 0
sum_to (suc k) f = sum_to k f + f k

-- energy j, 0 to 3, of unit u, and its cents
abbrev pub energy_at : Month → ℕ → ℕ → ℕ
energy_at m u j = get_or m.numbers (8 * u + j) 0

abbrev pub cents_at : Month → ℕ → ℕ → ℕ
cents_at m u j = get_or m.numbers (8 * u + (4 + j)) 0

pub record MonthLaws (rules : RuleSet) (s : Sheet) (m : Month) : Type 0 where
  pub is-month : m ≡ month_of rules s
  pub count : length m.numbers ≡ 8 * m.unit_count
  pub fit_32_bits : Each (λ x. x < 4294967296) m.numbers
  -- the energies of all units add to M, the cents to the bill
  pub energies_add : sum_to m.unit_count (λ u. sum_to 4 (λ j. energy_at m u j)) ≡ m.meter
  pub cents_add : sum_to m.unit_count (λ u. sum_to 4 (λ j. cents_at m u j)) ≡ m.bill
  -- at most 4 Wh from the unrounded portion, at most 1 cent from the bill's part
  pub energy_near : (u j : ℕ) → u < m.unit_count → j < 4 → Near (energy_at m u j) (energy_portion rules s u j) 4
  pub cents_near : (u j : ℕ) → u < m.unit_count → j < 4 → Near (cents_at m u j) (bill_part rules s u j) 1
  -- W = 0 with T > 0 never arises
  pub divisible : Each Divisible (divisions rules s)

abbrev pub SettledLaws : Type 0
SettledLaws = (rules : RuleSet) (bytes : List ℕ) (m : Month) → settled_sheet rules bytes ≡ settled m → MonthLaws rules (sheet_of bytes) m

-- ---- 2026-01
-- By archive versions 1 and 2 a month comes out the same, unless it is of model 4 with B > 0.
abbrev pub AlikeButForRisers : Type 0
AlikeButForRisers = (s : Sheet) → (s.model ≡ 4 → reading_sum s ≡ 0) → month_of Archive1 s ≡ month_of Archive2 s

-- ---- 2026-06
-- By archive versions 2 and 3 a month comes out the same, unless in one of its divisions by version 3 an item with a remainder is followed by one of the same remainder and larger weight.
abbrev pub WithoutTies : Division → Type 0
WithoutTies d = NoLaterLarger d.total d.weights

abbrev pub AlikeButForTies : Type 0
AlikeButForTies = (s : Sheet) → Each WithoutTies (divisions Archive3 s) → month_of Archive2 s ≡ month_of Archive3 s

-- ---- 8, 9 and 11 by H rounded up and by the exact H
-- a whole number below or above a fraction, by whole numbers over the fraction's lower
abbrev pub is_positive : ℤ → Bool
is_positive (pos n) = ltb 0 n
is_positive (negsuc n) = false

abbrev pub is_below : ℕ → Fraction → Bool
is_below x f = is_positive (f.upper -ℤ pos (x * f.lower))

abbrev pub is_above : ℕ → Fraction → Bool
is_above x f = is_positive (pos (x * f.lower) -ℤ f.upper)

pub record SameRefusals (s : Sheet) : Type 0 where
  pub water : ltb s.shared_meter (hot_water_wh s) ≡ is_below s.shared_meter (hot_water unrounded s)  -- 8: H > M
  pub divisor : ltb 0 (hot_water_wh s) ≡ is_below 0 (hot_water unrounded s)  -- 9: H > 0
  pub meters : hot_water_wh s ≤ s.shared_meter → ltb (space_heat_wh s) (metered_sum s) ≡ is_above (metered_sum s) (space_heat unrounded s)  -- 11: C > EG, where 8 is past

abbrev pub RoundingLaws : Type 0
RoundingLaws = (s : Sheet) → SameRefusals s

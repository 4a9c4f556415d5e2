-- Computed cases of the unrounded portions and of a bill's parts (document 01, end of "Steps of a month"), from the bytes on, worked by hand as exact fractions. One table, one theorem.
use Rattle.std.specs.Prelude.{Bool, true, ◌≡◌, refl, List, [], ◌∷◌, ◌++◌, map, ℕ, ◌+◌, ◌/◌, ◌%◌, ◌≤◌, ltb, ℤ, pos, negsuc, ◌*ℤ◌}
use Rattle.std.proofs.Common.{arith}
use Rattle.apportion.specs.Shares.{shares_by}
use Rattle.sheet.specs.Tests.{all}
use Rattle.sheet.specs.declared.rule_set.RuleSet.{RuleSet}
use Rattle.sheet.specs.declared.rule_set.RuleSet.TheVariants.{Archive1, Archive2, Archive3}
use Rattle.sheet.specs.Layout.{in_bytes, unit_row, rows, sheet_of}
use Rattle.sheet.specs.Cases.Samples.{zeros, unit_bytes, joined, sheet_bytes, heated, sheet_a, units_a}
use Rattle.month.specs.Fraction.{Fraction, Near, ◌over◌, ◌+ᶠ◌, ◌-ᶠ◌, sumᶠ, portion, portions}
use Rattle.month.specs.Weights.{all_metered, metered_sum, total_area, unread_weight, unread_weights, pool_weight, reading_sum, read_area, read_surface, area_weight, surface_weight, read_weight, read_weights, units_of_class, litres_of_class1, persons_of_class2, water_weight}
use Rattle.month.specs.Steps.{split_by, in_unit_order, unit_by_unit, hot_water, space_heat, heat_parts, pool_shares, read_shares, heat, common_heat, water_parts, water, common_water, energies}
use Rattle.month.specs.Month.{bill_cents}
use Rattle.month.specs.Portions.{energy_portion, bill_part}
use Rattle.month.specs.Cases.Months.{units_d, risers, risers_c}

-- ---- sheets in bytes, of month 1 and price 10,000
case_b : List ℕ
case_b = sheet_a 30 (units_a 0 400 600)

case_c : List ℕ
case_c = sheet_a 30 (units_a 1000 0 0)

-- case D with M 1
one_wh : List ℕ
one_wh = sheet_bytes 1 3 0 30 20 0 30 0 1 10000 (zeros 6) units_d

-- model 3, M 282, z 20, B = 0; source 2, t 51, one litre, y 10; p 100 and 200, class 2, persons 1 and 3
cold_water : List ℕ
cold_water = sheet_bytes 1 3 2 30 20 10 30 51 282 10000 (1 ∷ zeros 5) (unit_bytes 11 0 2 1000 100 0 0 0 0 1 ∷ unit_bytes 12 0 2 1000 200 0 0 0 0 3 ∷ [])

-- model 5, M 1,000, b 400 and 500; source 3, y 20; p 100 and 300, class 1, litres 3 and 2, persons 1 and 3
summer : List ℕ
summer = sheet_bytes 1 5 3 0 0 20 30 0 1000 10000 (1 ∷ 2 ∷ 4 ∷ 8 ∷ 16 ∷ 32 ∷ []) (unit_bytes 11 0 1 1000 100 0 0 400 3 1 ∷ unit_bytes 12 0 1 1000 300 0 0 500 2 3 ∷ [])

-- model 2, p 100 and 50
by_area : (M : ℕ) → List ℕ
by_area M = sheet_bytes 1 2 0 0 0 0 0 0 M 10000 (zeros 6) (heated 11 0 1000 100 0 ∷ heated 12 0 1000 50 0 ∷ [])

-- ---- the table
infix 70 ◌equals◌
data Case : Type 0 where
  ◌equals◌ : Fraction → Fraction → Case

-- the fractions of a sheet from place i on, four a unit: heat, common heat, water, common water
from_place : (ℕ → Fraction) → (i : ℕ) → List Fraction → List Case
from_place at i [] = []
from_place at i (f ∷ fs) = at i equals f ∷ from_place at (i + 1) fs

-- in Wh, and in cents
portions_of : RuleSet → List ℕ → List Fraction → List Case
portions_of rules bytes fs = from_place (λ i. energy_portion rules (sheet_of bytes) (i / 4) (i % 4)) 0 fs

cents_of : RuleSet → List ℕ → List Fraction → List Case
cents_of rules bytes fs = from_place (λ i. bill_part rules (sheet_of bytes) (i / 4) (i % 4)) 0 fs

cases : RuleSet → List Case
cases rules =
    -- B: r is in millions 15, raised to 20, then 71 and 114, of 205. Units' heat 800,000, common heat 200,000 by p.
    portions_of rules case_b (
    16000000 over 205 ∷ 50000 over 1 ∷ 0 over 1 ∷ 0 over 1
    ∷ 56800000 over 205 ∷ 50000 over 1 ∷ 0 over 1 ∷ 0 over 1
    ∷ 91200000 over 205 ∷ 100000 over 1 ∷ 0 over 1 ∷ 0 over 1
    ∷ []
    )
    -- C: r is in millions 155, lowered to 150, then 15 and 30, raised to 20 and 40: 15, 2, 4 of 21.
    ++ portions_of rules case_c (
    4000000 over 7 ∷ 50000 over 1 ∷ 0 over 1 ∷ 0 over 1
    ∷ 1600000 over 21 ∷ 50000 over 1 ∷ 0 over 1 ∷ 0 over 1
    ∷ 3200000 over 21 ∷ 100000 over 1 ∷ 0 over 1 ∷ 0 over 1
    ∷ []
    )
    -- Units' heat 0.8: 0.6 for unit 11, the rest of 0.2 by b and p alike, 1 and 2 of 3. Common heat 0.2 by 1, 1, 2.
    ++ portions_of rules one_wh (
    3 over 5 ∷ 1 over 20 ∷ 0 over 1 ∷ 0 over 1
    ∷ 1 over 15 ∷ 1 over 20 ∷ 0 over 1 ∷ 0 over 1
    ∷ 2 over 15 ∷ 1 over 10 ∷ 0 over 1 ∷ 0 over 1
    ∷ []
    )
    -- H = 151 × 54 / 100 = 81.54, EG = 200.46. Units' heat 160.368 and common heat 40.092 by p, 1 and 2 of 3; units' water 73.386 and common water 8.154 by persons, 1 and 3 of 4.
    ++ portions_of rules cold_water (
    53456 over 1000 ∷ 13364 over 1000 ∷ 183465 over 10000 ∷ 20385 over 10000
    ∷ 106912 over 1000 ∷ 26728 over 1000 ∷ 550395 over 10000 ∷ 61155 over 10000
    ∷ []
    )
    -- H = 115 × 63 / 600 = 12.075, EG = 987.925, C = 900. Common heat 87.925 by p, 1 and 3 of 4; units' water 9.66 by litres, 3 and 2 of 5; common water 2.415 by persons, 1 and 3 of 4.
    ++ portions_of rules summer (
    400 over 1 ∷ 2198125 over 100000 ∷ 5796 over 1000 ∷ 60375 over 100000
    ∷ 500 over 1 ∷ 6594375 over 100000 ∷ 3864 over 1000 ∷ 181125 over 100000
    ∷ []
    )
    -- C: a bill of 10,000 cents for M 1,000,000, so a hundredth of the settled Wh: 571,429, 76,190, 152,381.
    ++ cents_of rules case_c (
    571429 over 100 ∷ 500 over 1 ∷ 0 over 1 ∷ 0 over 1
    ∷ 76190 over 100 ∷ 500 over 1 ∷ 0 over 1 ∷ 0 over 1
    ∷ 152381 over 100 ∷ 1000 over 1 ∷ 0 over 1 ∷ 0 over 1
    ∷ []
    )
    -- M 150: 1.5 cents make a bill of 2, for 100 and 50 Wh. M 0: nothing.
    ++ cents_of rules (by_area 150) (4 over 3 ∷ 0 over 1 ∷ 0 over 1 ∷ 0 over 1 ∷ 2 over 3 ∷ 0 over 1 ∷ 0 over 1 ∷ 0 over 1 ∷ [])
    ++ cents_of rules (by_area 0) (0 over 1 ∷ 0 over 1 ∷ 0 over 1 ∷ 0 over 1 ∷ 0 over 1 ∷ 0 over 1 ∷ 0 over 1 ∷ 0 over 1 ∷ [])
    -- C by risers, s 50, 50, 100: r is in millions 15.5, 1.5, 3 of 20, and limited 15, 2, 4 of 21. The cents go by the settled Wh.
    ++ portions_of Archive1 (risers_c 50 1000) (
    620000 over 1 ∷ 50000 over 1 ∷ 0 over 1 ∷ 0 over 1
    ∷ 60000 over 1 ∷ 50000 over 1 ∷ 0 over 1 ∷ 0 over 1
    ∷ 120000 over 1 ∷ 100000 over 1 ∷ 0 over 1 ∷ 0 over 1
    ∷ []
    )
    ++ portions_of Archive2 (risers_c 50 1000) (
    4000000 over 7 ∷ 50000 over 1 ∷ 0 over 1 ∷ 0 over 1
    ∷ 1600000 over 21 ∷ 50000 over 1 ∷ 0 over 1 ∷ 0 over 1
    ∷ 3200000 over 21 ∷ 100000 over 1 ∷ 0 over 1 ∷ 0 over 1
    ∷ []
    )
    ++ cents_of Archive1 (risers_c 50 1000) (6200 over 1 ∷ [])
    ++ cents_of Archive2 (risers_c 50 1000) (571429 over 100 ∷ [])
    -- fractions added, and taken from each other
    ++ sumᶠ (1 over 2 ∷ 1 over 3 ∷ 1 over 7 ∷ []) equals 41 over 42
    ∷ (1 over 3 -ᶠ 1 over 2) equals record { upper = negsuc 0; lower = 6 }
    ∷ []

-- ---- the theorem: equal up to a common factor, upper × other lower = other upper × lower, the lower above 0
record Crossed : Type 0 where
  product : ℤ
  above0 : Bool

given : Case → Crossed
given (f equals g) = record { product = f.upper *ℤ pos g.lower; above0 = ltb 0 f.lower }

expected : Case → Crossed
expected (f equals g) = record { product = g.upper *ℤ pos f.lower; above0 = true }

all-cases : (rules : RuleSet) → map given (cases rules) ≡ map expected (cases rules)
unfolding cases given expected from_place portions_of cents_of case_b case_c units_d risers risers_c one_wh cold_water summer by_area
    unit_bytes joined sheet_bytes in_bytes shares_by all unit_row rows sheet_of ◌+ᶠ◌ ◌-ᶠ◌ sumᶠ portion portions
    all_metered metered_sum total_area unread_weight unread_weights pool_weight reading_sum read_area read_surface area_weight surface_weight read_weight read_weights units_of_class litres_of_class1 persons_of_class2 water_weight
    split_by in_unit_order unit_by_unit hot_water space_heat heat_parts pool_shares read_shares heat common_heat water_parts water common_water energies
    bill_cents energy_portion bill_part
all-cases Archive1 = refl
all-cases Archive2 = refl
all-cases Archive3 = refl

-- ---- at most 1 away from 2.5: 2 and 3, not 1 and 4
near_below : Near 2 (5 over 2) 1
near_below = record { above0 = omega arith; within = omega arith }

near_above : Near 3 (5 over 2) 1
near_above = record { above0 = omega arith; within = omega arith }

not_near_below : Near 1 (5 over 2) 1 → ⊥
not_near_below n = let h : 3 ≤ 2 = n.within in omega arith

not_near_above : Near 4 (5 over 2) 1 → ⊥
not_near_above n = let h : 3 ≤ 2 = n.within in omega arith

-- Computed cases, from the bytes on: A to L (document 01, "Cases for the proofs"), small sheets of each model and water source and refusals 8 to 12, worked by hand, all by the rules
-- of each archive version, and sheets that the limits of model 4 (2026-01) or the rule for ties (2026-06) move. docs/REGULATION.md takes its figures from this table.
use Rattle.std.specs.Prelude.{◌≡◌, refl, List, [], ◌∷◌, ◌++◌, map, ℕ, zero, suc, get_or, drop}
use Rattle.apportion.specs.Shares.{shares_by}
use Rattle.sheet.specs.Tests.{all, any}
use Rattle.sheet.specs.Refusals.{number_of, place_of, first_refusal}
use Rattle.sheet.specs.declared.rule_set.RuleSet.{RuleSet}
use Rattle.sheet.specs.declared.rule_set.RuleSet.TheVariants.{Archive1, Archive2, Archive3}
use Rattle.sheet.specs.Layout.{in_bytes, unit_row, rows, sheet_of}
use Rattle.sheet.specs.Check.{header_tests, row_tests, field_rules, row_rules, sheet_rules}
use Rattle.sheet.specs.Cases.Samples.{unit_bytes, joined, sheet_bytes, heated, sheet_a, units_a, case_a, by_limits, by_ties}
use Rattle.month.specs.Weights.{all_metered, metered_sum, has_pool, total_area, unread_weight, unread_weights, pool_weight, reading_sum, read_area, read_surface, area_weight, surface_weight, read_weight, read_weights, units_of_class, litres_of_class1, persons_of_class2, water_weight}
use Rattle.month.specs.Steps.{shares_under, split_by, in_unit_order, unit_by_unit, hot_water, space_heat, heat_parts, pool_shares, read_shares, heat, common_heat, water_parts, water, common_water, energies}
use Rattle.month.specs.Month.{hot_water_wh, space_heat_wh, zero_water_divisor, zero_divisor, month_rules, bill_cents, costs, four_and_four, statement_of, Month, month_of, Settled, refused, settled, settle_rules, settled_sheet}

-- ---- sheets in bytes
-- a sheet of month 1
abbrev sheet : (model source v z y f t M price : ℕ) → (readings : List ℕ) → (units : List (List ℕ)) → List ℕ
sheet model source v z y f t M price readings units = sheet_bytes 1 model source v z y f t M price readings units

-- h1 with h2 .. h6 zero, and all six 1,000
abbrev first : ℕ → List ℕ
first h1 = h1 ∷ 0 ∷ 0 ∷ 0 ∷ 0 ∷ 0 ∷ []

abbrev six : List ℕ
six = 1000 ∷ 1000 ∷ 1000 ∷ 1000 ∷ 1000 ∷ 1000 ∷ []

-- case A's units, unit 11 without a device
unfoldable pub units_d : List (List ℕ)
units_d = heated 11 1 1000 500 0 ∷ heated 12 0 1000 500 300 ∷ heated 13 0 1000 1000 600 ∷ []

-- p 500 without a device, p 1,000 read
units_e : List (List ℕ)
units_e = heated 11 1 1000 500 0 ∷ heated 12 0 1000 1000 300 ∷ []

-- model 3, z 0, p 500 each: unit 11 read, 12 and 13 with a fault
last_the_rest : (M : ℕ) → List ℕ
last_the_rest M = sheet 3 0 30 0 0 30 0 M 10000 (first 0) (heated 11 0 1000 500 100 ∷ heated 12 2 1000 500 0 ∷ heated 13 2 1000 500 0 ∷ [])

-- model 5, p 500 and 1,000 read, p 500 without a device
partly_metered : (f : ℕ) → List ℕ
partly_metered f = sheet 5 0 0 20 0 f 0 1000000 10000 (first 0) (heated 11 0 1000 500 100000 ∷ heated 12 0 1000 1000 300000 ∷ heated 13 1 1000 500 0 ∷ [])

-- model 2, M 1,000, of which H 600 by a meter of its own
water_sheet : (y : ℕ) → List (List ℕ) → List ℕ
water_sheet y units = sheet 2 1 0 0 y 0 0 1000 10000 (first 600) units

-- ---- answers
pub data Answer : Type 0 where
  settles_to : Month → Answer
  settles : (bill : ℕ) (numbers : List ℕ) → Answer
  refuses : (number place : ℕ) → Answer
  numbers : List ℕ → Answer

-- the answer to a sheet: whole; bill and statement; each unit's heat alone
abbrev whole_of : Settled → Answer
whole_of (settled m) = settles_to m
whole_of (refused r) = refuses (number_of r) (place_of r)

abbrev answer_of : Settled → Answer
answer_of (settled m) = settles m.bill m.numbers
answer_of (refused r) = refuses (number_of r) (place_of r)

every_eighth : ℕ → List ℕ → List ℕ
every_eighth zero xs = []
every_eighth (suc n) xs = get_or xs 0 0 ∷ every_eighth n (drop 8 xs)

abbrev heats_of : Settled → Answer
heats_of (settled m) = numbers (every_eighth m.unit_count m.numbers)
heats_of (refused r) = refuses (number_of r) (place_of r)

whole : RuleSet → List ℕ → Answer
whole rules bytes = whole_of (settled_sheet rules bytes)

answer : RuleSet → List ℕ → Answer
answer rules bytes = answer_of (settled_sheet rules bytes)

heats : RuleSet → List ℕ → Answer
heats rules bytes = heats_of (settled_sheet rules bytes)

pool : List ℕ → Answer
pool bytes = numbers (pool_weight (sheet_of bytes) ∷ [])

-- the hot water of model 2 with a source, t and readings
hot_water_of : (source t : ℕ) → List ℕ → Answer
hot_water_of source t readings = numbers (hot_water_wh (sheet_of (sheet 2 source 0 0 0 0 t 0 0 readings [])) ∷ [])

bill_of : (M price : ℕ) → Answer
bill_of M price = numbers (bill_cents (sheet_of (sheet 2 0 0 0 0 0 0 M price (first 0) [])) ∷ [])

-- ---- the table: what the definitions give, and what is expected
infix 70 ◌gives◌
pub data Case : Type 0 where
  ◌gives◌ : Answer → Answer → Case

abbrev pub given : Case → Answer
given (x gives y) = x

abbrev pub expected : Case → Answer
expected (x gives y) = y

-- A whole
unfoldable pub month_a : Month
month_a = record {
  month = 1;
  unit_count = 3;
  ids = 11 ∷ 12 ∷ 13 ∷ [];
  meter = 1000000;
  bill = 10000;
  numbers = 116000 ∷ 50000 ∷ 0 ∷ 0 ∷ 1160 ∷ 500 ∷ 0 ∷ 0
      ∷ 228000 ∷ 50000 ∷ 0 ∷ 0 ∷ 2280 ∷ 500 ∷ 0 ∷ 0
      ∷ 456000 ∷ 100000 ∷ 0 ∷ 0 ∷ 4560 ∷ 1000 ∷ 0 ∷ 0
      ∷ [];
}

-- document 01's, the same by all rules
cases_a_to_l : RuleSet → List Case
cases_a_to_l rules =
    whole rules case_a gives settles_to month_a  -- A
    ∷ heats rules (sheet_a 30 (units_a 0 400 600)) gives numbers (78049 ∷ 277073 ∷ 444878 ∷ [])  -- B
    ∷ heats rules (sheet_a 30 (units_a 1000 0 0)) gives numbers (571429 ∷ 76190 ∷ 152381 ∷ [])  -- C
    ∷ heats rules (sheet_a 30 units_d) gives numbers (600000 ∷ 66667 ∷ 133333 ∷ [])  -- D
    ∷ pool (sheet_a 30 units_e) gives numbers (0 ∷ [])  -- E
    ∷ heats rules (sheet_a 30 units_e) gives numbers (800000 ∷ 0 ∷ [])  -- E settles
    ∷ answer rules (sheet_a 31 units_e) gives refuses 12 0  -- F
    ∷ numbers (shares_under rules 10 (1 ∷ 1 ∷ 1 ∷ [])) gives numbers (4 ∷ 3 ∷ 3 ∷ [])  -- G
    ∷ numbers (shares_under rules 5 (0 ∷ 3 ∷ 1 ∷ [])) gives numbers (0 ∷ 4 ∷ 1 ∷ [])  -- H
    ∷ hot_water_of 2 51 (first 1) gives numbers (82 ∷ [])  -- I
    ∷ hot_water_of 3 0 six gives numbers (1150 ∷ [])  -- J
    ∷ bill_of 50 10000 gives numbers (1 ∷ [])  -- K
    ∷ bill_of 49 10000 gives numbers (0 ∷ [])  -- L
    ∷ []

-- others, the same by all rules
cases_by_hand : RuleSet → List Case
cases_by_hand rules =
    -- Model 1 goes by q alone, whatever p and KF.
    heats rules (sheet 1 0 0 0 0 0 0 1000 10000 (first 0) (unit_bytes 11 0 0 1000 300 0 1000 0 0 0 ∷ unit_bytes 12 0 0 500 100 0 3000 0 0 0 ∷ [])) gives numbers (250 ∷ 750 ∷ [])
    -- Model 2 with both water classes: n1 2, n2 1, L 40, N2 4, so 480 Wh by 240, 80, 160; common water 120 Wh by 1, 3, 4; the fourth unit has no water.
    ∷ answer rules (water_sheet 20 (unit_bytes 11 0 1 1000 50 0 0 0 30 1 ∷ unit_bytes 12 0 1 1000 50 0 0 0 10 3 ∷ unit_bytes 13 0 2 1000 100 0 0 0 0 4 ∷ unit_bytes 14 0 0 1000 200 0 0 0 0 0 ∷ []))
    gives settles 10 (
    50 ∷ 0 ∷ 240 ∷ 15 ∷ 1 ∷ 0 ∷ 2 ∷ 0
    ∷ 50 ∷ 0 ∷ 80 ∷ 45 ∷ 0 ∷ 0 ∷ 1 ∷ 0
    ∷ 100 ∷ 0 ∷ 160 ∷ 60 ∷ 1 ∷ 0 ∷ 2 ∷ 1
    ∷ 200 ∷ 0 ∷ 0 ∷ 0 ∷ 2 ∷ 0 ∷ 0 ∷ 0
    ∷ []
    )
    -- One unit of class 1, two of class 2: n1 1, n2 2, L 10, N2 4, so 600 Wh by 1 × 10 × 4 = 40, 2 × 1 × 10 = 20, 2 × 3 × 10 = 60; heat 400 Wh by p, whatever q and KF.
    ∷ answer rules (water_sheet 0 (unit_bytes 11 0 1 1000 100 0 700 0 10 5 ∷ unit_bytes 12 0 2 1000 100 0 0 0 0 1 ∷ unit_bytes 13 0 2 500 200 0 0 0 0 3 ∷ []))
    gives settles 10 (
    100 ∷ 0 ∷ 200 ∷ 0 ∷ 1 ∷ 0 ∷ 2 ∷ 0
    ∷ 100 ∷ 0 ∷ 100 ∷ 0 ∷ 1 ∷ 0 ∷ 1 ∷ 0
    ∷ 200 ∷ 0 ∷ 300 ∷ 0 ∷ 2 ∷ 0 ∷ 3 ∷ 0
    ∷ []
    )
    -- Six different readings, 600 × (1 + 2 + 4 + 8 + 16 + 32) Wh: 115 × 63.
    ∷ hot_water_of 3 0 (600 ∷ 1200 ∷ 2400 ∷ 4800 ∷ 9600 ∷ 19200 ∷ []) gives numbers (7245 ∷ [])
    -- The bill just under half a cent, 499,999 millionths.
    ∷ bill_of 499999 1 gives numbers (0 ∷ [])
    -- A with v 20: r is 80 × b × 2,000 + 20 × p × 1,000, in millions 16 + 10, 48 + 10, 96 + 20, of 200.
    ∷ heats rules (sheet 3 0 20 20 0 30 0 1000000 10000 (first 0) (units_a 100 300 600)) gives numbers (104000 ∷ 232000 ∷ 464000 ∷ [])
    -- Model 3 with KF 1,000, 200, 1,000: r 15, 85, 100 millions, the first raised to 20, so weights 20, 17, 100.
    ∷ heats rules (sheet 3 0 30 50 0 30 0 274000 10000 (first 0) (heated 11 0 1000 500 0 ∷ heated 12 0 200 500 500 ∷ heated 13 0 1000 1000 500 ∷ []))
    gives numbers (20000 ∷ 17000 ∷ 100000 ∷ [])
    -- Model 3, unit 11 in status 3: a quarter of 800,000 by its p, whatever KF. A is 1,500: r 40.5 and 49.5 millions.
    ∷ heats rules (sheet_a 30 (heated 11 3 500 500 0 ∷ heated 12 0 1000 500 300 ∷ heated 13 0 1000 1000 300 ∷ [])) gives numbers (200000 ∷ 270000 ∷ 330000 ∷ [])
    -- C whole. Heat by 15, 2, 4 of 21: two Wh are left over, for units 13 and 11. Of the cents 5,714.29, 761.90, 1,523.81 are due: two left over, for 12 and 13.
    ∷ answer rules (sheet_a 30 (units_a 1000 0 0))
    gives settles 10000 (
    571429 ∷ 50000 ∷ 0 ∷ 0 ∷ 5714 ∷ 500 ∷ 0 ∷ 0
    ∷ 76190 ∷ 50000 ∷ 0 ∷ 0 ∷ 762 ∷ 500 ∷ 0 ∷ 0
    ∷ 152381 ∷ 100000 ∷ 0 ∷ 0 ∷ 1524 ∷ 1000 ∷ 0 ∷ 0
    ∷ []
    )
    -- D with unit 11 in status 2: a quarter by its p, though few units are faulty. In status 4: three quarters, as without a device.
    ∷ heats rules (sheet_a 30 (heated 11 2 1000 500 0 ∷ heated 12 0 1000 500 300 ∷ heated 13 0 1000 1000 600 ∷ [])) gives numbers (200000 ∷ 200000 ∷ 400000 ∷ [])
    ∷ heats rules (sheet_a 30 (heated 11 4 1000 500 0 ∷ heated 12 0 1000 500 300 ∷ heated 13 0 1000 1000 600 ∷ [])) gives numbers (600000 ∷ 66667 ∷ 133333 ∷ [])
    -- D with KF 500 of unit 12: the pool of 200,000 by 1 and 4; unit 11 keeps its 600,000.
    ∷ heats rules (sheet_a 30 (heated 11 1 1000 500 0 ∷ heated 12 0 500 500 300 ∷ heated 13 0 1000 1000 600 ∷ [])) gives numbers (600000 ∷ 40000 ∷ 160000 ∷ [])
    -- Model 3, B = 0: by p × KF.
    ∷ heats rules (sheet_a 30 (heated 11 0 1000 500 0 ∷ heated 12 0 500 1000 0 ∷ [])) gives numbers (400000 ∷ 400000 ∷ [])
    -- Model 3, units 12 and 13 in status 2: three equal weights, in row order 12, 13 and last the rest, which is unit 11's. One Wh, then two.
    ∷ heats rules (last_the_rest 1) gives numbers (0 ∷ 1 ∷ 0 ∷ [])
    ∷ heats rules (last_the_rest 2) gives numbers (0 ∷ 1 ∷ 1 ∷ [])
    -- One Wh in two equal parts is the units': of heat by z 50, of water by y 50.
    ∷ answer rules (sheet 3 0 30 50 0 30 0 1 10000 (first 0) (heated 11 0 1000 500 100 ∷ [])) gives settles 0 (1 ∷ 0 ∷ 0 ∷ 0 ∷ 0 ∷ 0 ∷ 0 ∷ 0 ∷ [])
    ∷ answer rules (sheet 2 1 0 0 50 0 0 1 10000 (first 1) (unit_bytes 11 0 1 1000 100 0 0 0 5 1 ∷ [])) gives settles 0 (0 ∷ 0 ∷ 1 ∷ 0 ∷ 0 ∷ 0 ∷ 0 ∷ 0 ∷ [])
    -- Model 3, M = 0: nothing by energies of sum 0.
    ∷ answer rules (sheet 3 0 30 20 0 30 0 0 10000 (first 0) (heated 11 0 1000 500 100 ∷ [])) gives settles 0 (0 ∷ 0 ∷ 0 ∷ 0 ∷ 0 ∷ 0 ∷ 0 ∷ 0 ∷ [])
    -- Model 4, s 100, 200, 300, unit 11 without a device: three quarters of 800,000 by its p, whatever s. S is 500, B 900: r 15.9 and 29.1 millions.
    ∷ heats rules (sheet 4 0 30 20 0 30 0 1000000 10000 (first 0) (unit_bytes 11 1 0 1000 500 100 0 0 0 0 ∷ unit_bytes 12 0 0 1000 500 200 0 300 0 0 ∷ unit_bytes 13 0 0 1000 1000 300 0 600 0 0 ∷ []))
    gives numbers (600000 ∷ 70667 ∷ 129333 ∷ [])
    -- Model 4, B = 0: by s × KF.
    ∷ heats rules (sheet 4 0 50 0 0 30 0 900 10000 (first 0) (unit_bytes 11 0 0 1000 100 10 0 0 0 0 ∷ unit_bytes 12 0 0 500 100 40 0 0 0 0 ∷ []))
    gives numbers (300 ∷ 600 ∷ [])
    -- Model 5, all read: C 800 of EG 1,000. H by six readings is 1,150, y 20; class 1 alone, by litres 3 and 2.
    ∷ answer rules (sheet 5 3 0 0 20 30 0 2150 100000 six (unit_bytes 11 0 1 1000 100 0 0 300 3 1 ∷ unit_bytes 12 0 1 1000 300 0 0 500 2 1 ∷ []))
    gives settles 215 (300 ∷ 50 ∷ 552 ∷ 115 ∷ 30 ∷ 5 ∷ 55 ∷ 12 ∷ 500 ∷ 150 ∷ 368 ∷ 115 ∷ 50 ∷ 15 ∷ 37 ∷ 11 ∷ [])
    -- Model 5, unit 13 in status 4 with KF 500: three eighths of 800,000; the rest by b, whatever KF.
    ∷ answer rules (sheet 5 0 0 20 0 30 0 1000000 10000 (first 0) (heated 11 0 500 500 100000 ∷ heated 12 0 1000 1000 300000 ∷ heated 13 4 500 500 0 ∷ []))
    gives settles 10000 (
    125000 ∷ 50000 ∷ 0 ∷ 0 ∷ 1250 ∷ 500 ∷ 0 ∷ 0
    ∷ 375000 ∷ 100000 ∷ 0 ∷ 0 ∷ 3750 ∷ 1000 ∷ 0 ∷ 0
    ∷ 300000 ∷ 50000 ∷ 0 ∷ 0 ∷ 3000 ∷ 500 ∷ 0 ∷ 0
    ∷ []
    )
    -- Model 5, unit 13 without a device: three quarters of 800,000 by f 30, five eighths by f 25; the rest by b. 36 is out of f's range.
    ∷ heats rules (partly_metered 30) gives numbers (50000 ∷ 150000 ∷ 600000 ∷ [])
    ∷ heats rules (partly_metered 25) gives numbers (75000 ∷ 225000 ∷ 500000 ∷ [])
    ∷ heats rules (partly_metered 36) gives refuses 4 14
    -- Model 5, B = 0, unit 13 in status 2: a third of 900 by its p; the rest by p × KF.
    ∷ heats rules (sheet 5 0 0 0 0 30 0 900 10000 (first 0) (heated 11 0 1000 100 0 ∷ heated 12 0 500 100 0 ∷ heated 13 2 1000 100 0 ∷ [])) gives numbers (400 ∷ 200 ∷ 300 ∷ [])
    -- No bytes.
    ∷ answer rules [] gives refuses 1 0
    -- 8: H 1,001 of M 1,000; 1,000 passes.
    ∷ answer rules (sheet 2 1 0 0 0 0 0 1000 10000 (first 1001) (unit_bytes 11 0 1 1000 100 0 0 0 5 1 ∷ [])) gives refuses 8 0
    ∷ answer rules (sheet 2 1 0 0 0 0 0 1000 10000 (first 1000) (unit_bytes 11 0 1 1000 100 0 0 0 5 1 ∷ [])) gives settles 10 (0 ∷ 0 ∷ 1000 ∷ 0 ∷ 0 ∷ 0 ∷ 10 ∷ 0 ∷ [])
    -- 9: n1 + n2 = 0; L = 0; N2 = 0; y > 0 and no persons; model 1 with all q 0; model 4 with S = 0.
    ∷ answer rules (water_sheet 0 (unit_bytes 11 0 0 1000 100 0 0 0 0 0 ∷ [])) gives refuses 9 0
    ∷ answer rules (water_sheet 0 (unit_bytes 11 0 1 1000 100 0 0 0 0 1 ∷ [])) gives refuses 9 0
    ∷ answer rules (water_sheet 0 (unit_bytes 11 0 2 1000 100 0 0 0 0 0 ∷ [])) gives refuses 9 0
    ∷ answer rules (water_sheet 20 (unit_bytes 11 0 1 1000 100 0 0 0 5 0 ∷ [])) gives refuses 9 0
    ∷ answer rules (sheet 1 0 0 0 0 0 0 1000 10000 (first 0) (unit_bytes 11 0 0 1000 100 0 0 0 0 0 ∷ [])) gives refuses 9 0
    ∷ answer rules (sheet 4 0 50 0 0 30 0 1000 10000 (first 0) (unit_bytes 11 0 0 1000 100 0 0 30 0 0 ∷ [])) gives refuses 9 0
    -- The last three where nothing is to be divided: of H 1 by y 20 no common water is left; M 0.
    ∷ answer rules (sheet 2 1 0 0 20 0 0 1 10000 (first 1) (unit_bytes 11 0 1 1000 100 0 0 0 5 0 ∷ [])) gives refuses 9 0
    ∷ answer rules (sheet 1 0 0 0 0 0 0 0 10000 (first 0) (unit_bytes 11 0 0 1000 100 0 0 0 0 0 ∷ [])) gives refuses 9 0
    ∷ answer rules (sheet 4 0 50 0 0 30 0 0 10000 (first 0) (unit_bytes 11 0 0 1000 100 0 0 30 0 0 ∷ [])) gives refuses 9 0
    -- L = 0 and N2 = 0 beside the other class. With y 0 and no persons, and with H 0 and n1 + n2 = 0, all heat is unit 11's.
    ∷ answer rules (water_sheet 0 (unit_bytes 11 0 1 1000 100 0 0 0 0 1 ∷ unit_bytes 12 0 2 1000 100 0 0 0 0 1 ∷ [])) gives refuses 9 0
    ∷ answer rules (water_sheet 0 (unit_bytes 11 0 1 1000 100 0 0 0 5 1 ∷ unit_bytes 12 0 2 1000 100 0 0 0 0 0 ∷ [])) gives refuses 9 0
    ∷ heats rules (water_sheet 0 (unit_bytes 11 0 1 1000 100 0 0 0 5 0 ∷ [])) gives numbers (400 ∷ [])
    ∷ heats rules (sheet 2 1 0 0 20 0 0 1000 10000 (first 0) (heated 11 0 1000 100 0 ∷ [])) gives numbers (1000 ∷ [])
    -- 10: nobody read, in models 3 and 5.
    ∷ answer rules (sheet_a 30 (heated 11 2 1000 500 0 ∷ [])) gives refuses 10 0
    ∷ answer rules (sheet 5 0 0 0 0 30 0 1000 10000 (first 0) (heated 11 2 1000 500 0 ∷ [])) gives refuses 10 0
    -- 11: H by case I is 82, exactly 81.54; so of M 182 a C of 100 passes, 101 does not.
    ∷ heats rules (sheet 5 2 0 0 0 30 51 182 10000 (first 1) (unit_bytes 11 0 1 1000 100 0 0 100 1 1 ∷ [])) gives numbers (100 ∷ [])
    ∷ answer rules (sheet 5 2 0 0 0 30 51 182 10000 (first 1) (unit_bytes 11 0 1 1000 100 0 0 101 1 1 ∷ [])) gives refuses 11 0
    -- 12: F with M 0, so EG 0; F in models 4 and 5.
    ∷ answer rules (sheet 3 0 30 20 0 31 0 0 10000 (first 0) units_e) gives refuses 12 0
    ∷ answer rules (sheet 4 0 30 20 0 31 0 1000000 10000 (first 0) (unit_bytes 11 1 0 1000 500 10 0 0 0 0 ∷ unit_bytes 12 0 0 1000 1000 10 0 300 0 0 ∷ [])) gives refuses 12 0
    ∷ answer rules (sheet 5 0 0 20 0 31 0 1000000 10000 (first 0) units_e) gives refuses 12 0
    -- Several faults, the lowest decides. One unit without a device, f 31: 8, 9, 10, 12 in model 4 with H 1,001 of M 1,000; 9, 10, 12 without hot water; 10, 12 in model 3.
    ∷ answer rules (sheet 4 1 50 0 0 31 0 1000 10000 (first 1001) (unit_bytes 11 1 0 1000 100 10 0 0 0 0 ∷ [])) gives refuses 8 0
    ∷ answer rules (sheet 4 0 50 0 0 31 0 1000 10000 (first 0) (unit_bytes 11 1 0 1000 100 10 0 0 0 0 ∷ [])) gives refuses 9 0
    ∷ answer rules (sheet 3 0 30 0 0 31 0 1000 10000 (first 0) (unit_bytes 11 1 0 1000 100 10 0 0 0 0 ∷ [])) gives refuses 10 0
    -- The first of these with a fault of the sheet itself, which comes before them: f 36, KF 1,001, a reading of a unit without a device, the same id twice.
    ∷ answer rules (sheet 4 1 50 0 0 36 0 1000 10000 (first 1001) (unit_bytes 11 1 0 1000 100 10 0 0 0 0 ∷ [])) gives refuses 4 14
    ∷ answer rules (sheet 4 1 50 0 0 31 0 1000 10000 (first 1001) (unit_bytes 11 1 0 1001 100 10 0 0 0 0 ∷ [])) gives refuses 6 0
    ∷ answer rules (sheet 4 1 50 0 0 31 0 1000 10000 (first 1001) (unit_bytes 11 1 0 1000 100 10 0 5 0 0 ∷ [])) gives refuses 20 0
    ∷ answer rules (sheet 4 1 50 0 0 31 0 1000 10000 (first 1001) (unit_bytes 11 1 0 1000 100 10 0 0 0 0 ∷ unit_bytes 11 1 0 1000 100 10 0 0 0 0 ∷ [])) gives refuses 7 1
    -- One unit of model 5, read, C 101, n1 + n2 = 0: 8, 9, 11 with H 1,001; 9, 11 with H 900.
    ∷ answer rules (sheet 5 1 0 0 0 30 0 1000 10000 (first 1001) (heated 11 0 1000 100 101 ∷ [])) gives refuses 8 0
    ∷ answer rules (sheet 5 1 0 0 0 30 0 1000 10000 (first 900) (heated 11 0 1000 100 101 ∷ [])) gives refuses 9 0
    ∷ []

-- case C by risers: model 4, s of the first unit and 50, 100, with b 1,000, 0, 0
unfoldable pub risers : (v surface factor : ℕ) → List ℕ
risers v surface factor = sheet 4 0 v 20 0 30 0 1000000 10000 (first 0) (unit_bytes 11 0 0 factor 500 surface 0 1000 0 0 ∷ unit_bytes 12 0 0 1000 500 50 0 0 0 0 ∷ unit_bytes 13 0 0 1000 1000 100 0 0 0 0 ∷ [])

unfoldable pub risers_c : (surface factor : ℕ) → List ℕ
risers_c surface factor = risers 30 surface factor

-- model 4, v 10, unit 11 without a device: three quarters of 3,200 by its p
one_unread : List ℕ
one_unread = sheet 4 0 10 0 0 30 0 3200 10000 (first 0) (unit_bytes 11 1 0 1000 100 40 0 0 0 0 ∷ unit_bytes 12 0 0 1000 100 10 0 0 0 0 ∷ unit_bytes 13 0 0 1000 100 20 0 20 0 0 ∷ unit_bytes 14 0 0 1000 100 10 0 20 0 0 ∷ [])

-- by the limits of model 4 (2026-01) and without them
cases_by_limits : RuleSet → List Case
cases_by_limits rules =
    -- S 200, B 1,000: r 15.5, 1.5, 3 millions; limited 15, 2, 4.
    heats rules (risers_c 50 1000) gives numbers (by_limits rules (620000 ∷ 60000 ∷ 120000 ∷ []) (571429 ∷ 76190 ∷ 152381 ∷ []))
    -- The first s 0, S 150: r 10.5, 1.5, 3 millions; the first keeps it, the others are raised to 2 and 4.
    ∷ heats rules (risers_c 0 1000) gives numbers (by_limits rules (560000 ∷ 80000 ∷ 160000 ∷ []) (509091 ∷ 96970 ∷ 193939 ∷ []))
    -- The first s 1, S 151: r 10.6, 1.5, 3 millions; limited 0.3, 2, 4.
    ∷ heats rules (risers_c 1 1000) gives numbers (by_limits rules (561590 ∷ 79470 ∷ 158940 ∷ []) (38095 ∷ 253968 ∷ 507937 ∷ []))
    -- v 0: r 20, 0, 0 millions; limited 15, 2, 4.
    ∷ heats rules (risers 0 50 1000) gives numbers (by_limits rules (800000 ∷ 0 ∷ 0 ∷ []) (571429 ∷ 76190 ∷ 152381 ∷ []))
    -- KF 500 of the first, after the limits: 7.75, 1.5, 3 and 7.5, 2, 4.
    ∷ heats rules (risers_c 50 500) gives numbers (by_limits rules (506123 ∷ 97959 ∷ 195918 ∷ []) (444444 ∷ 118519 ∷ 237037 ∷ []))
    -- S 40, B 40: r 4,000, 80,000, 76,000, the first raised to 16,000.
    ∷ heats rules one_unread gives numbers (by_limits rules (2400 ∷ 20 ∷ 400 ∷ 380 ∷ []) (2400 ∷ 74 ∷ 372 ∷ 354 ∷ []))
    ∷ []

-- model 2, M Wh by p
by_areas : (M : ℕ) → (p₁ p₂ : ℕ) → List ℕ
by_areas M p₁ p₂ = sheet 2 0 0 0 0 0 0 M 10000 (first 0) (heated 11 0 1000 p₁ 0 ∷ heated 12 0 1000 p₂ 0 ∷ [])

-- ties to the earlier item and to the larger weight (2026-06)
cases_by_ties : RuleSet → List Case
cases_by_ties rules =
    -- Model 2, M 2, p 1 and 3: 0.5 and 1.5 are due.
    answer rules (by_areas 2 1 3)
    gives by_ties rules (settles 0 (1 ∷ 0 ∷ 0 ∷ 0 ∷ 0 ∷ 0 ∷ 0 ∷ 0 ∷ 1 ∷ 0 ∷ 0 ∷ 0 ∷ 0 ∷ 0 ∷ 0 ∷ 0 ∷ [])) (settles 0 (0 ∷ 0 ∷ 0 ∷ 0 ∷ 0 ∷ 0 ∷ 0 ∷ 0 ∷ 2 ∷ 0 ∷ 0 ∷ 0 ∷ 0 ∷ 0 ∷ 0 ∷ 0 ∷ []))
    -- The larger is the earlier; equal remainders and equal weights: the earlier.
    ∷ answer rules (by_areas 2 3 1) gives settles 0 (2 ∷ 0 ∷ 0 ∷ 0 ∷ 0 ∷ 0 ∷ 0 ∷ 0 ∷ 0 ∷ 0 ∷ 0 ∷ 0 ∷ 0 ∷ 0 ∷ 0 ∷ 0 ∷ [])
    ∷ answer rules (by_areas 3 2 2) gives settles 0 (2 ∷ 0 ∷ 0 ∷ 0 ∷ 0 ∷ 0 ∷ 0 ∷ 0 ∷ 1 ∷ 0 ∷ 0 ∷ 0 ∷ 0 ∷ 0 ∷ 0 ∷ 0 ∷ [])
    -- Model 1, M 8, q 1, 7, 4: 0.67, 4.67, 2.67 are due, two left over. The areas, the first the largest, play no part.
    ∷ answer rules (sheet 1 0 0 0 0 0 0 8 10000 (first 0) (unit_bytes 11 0 0 1000 300 0 1 0 0 0 ∷ unit_bytes 12 0 0 1000 100 0 7 0 0 0 ∷ unit_bytes 13 0 0 1000 100 0 4 0 0 0 ∷ []))
    gives by_ties rules
    (settles 0 (1 ∷ 0 ∷ 0 ∷ 0 ∷ 0 ∷ 0 ∷ 0 ∷ 0 ∷ 5 ∷ 0 ∷ 0 ∷ 0 ∷ 0 ∷ 0 ∷ 0 ∷ 0 ∷ 2 ∷ 0 ∷ 0 ∷ 0 ∷ 0 ∷ 0 ∷ 0 ∷ 0 ∷ []))
    (settles 0 (0 ∷ 0 ∷ 0 ∷ 0 ∷ 0 ∷ 0 ∷ 0 ∷ 0 ∷ 5 ∷ 0 ∷ 0 ∷ 0 ∷ 0 ∷ 0 ∷ 0 ∷ 0 ∷ 3 ∷ 0 ∷ 0 ∷ 0 ∷ 0 ∷ 0 ∷ 0 ∷ 0 ∷ []))
    -- A bill. Model 1, q 1,000 and 3,000: of the ten cents 2.5 and 7.5 are due.
    ∷ answer rules (sheet 1 0 0 0 0 0 0 1000 10000 (first 0) (unit_bytes 11 0 0 1000 100 0 1000 0 0 0 ∷ unit_bytes 12 0 0 1000 100 0 3000 0 0 0 ∷ []))
    gives by_ties rules
    (settles 10 (250 ∷ 0 ∷ 0 ∷ 0 ∷ 3 ∷ 0 ∷ 0 ∷ 0 ∷ 750 ∷ 0 ∷ 0 ∷ 0 ∷ 7 ∷ 0 ∷ 0 ∷ 0 ∷ []))
    (settles 10 (250 ∷ 0 ∷ 0 ∷ 0 ∷ 2 ∷ 0 ∷ 0 ∷ 0 ∷ 750 ∷ 0 ∷ 0 ∷ 0 ∷ 8 ∷ 0 ∷ 0 ∷ 0 ∷ []))
    -- Model 4, v 50, z 10: r 80,000 each, KF 1,000 and 500. H by t 50 and ten litres is 810, by persons 2 and 1. Of the cents 2.5 are due for 25 Wh, 7.5 for 75.
    ∷ answer rules (sheet 4 2 50 10 0 30 50 1810 100000 (first 10) (unit_bytes 11 0 2 1000 100 10 0 30 0 2 ∷ unit_bytes 12 0 2 500 300 30 0 10 0 1 ∷ []))
    gives by_ties rules
    (settles 181 (600 ∷ 25 ∷ 540 ∷ 0 ∷ 60 ∷ 3 ∷ 54 ∷ 0 ∷ 300 ∷ 75 ∷ 270 ∷ 0 ∷ 30 ∷ 7 ∷ 27 ∷ 0 ∷ []))
    (settles 181 (600 ∷ 25 ∷ 540 ∷ 0 ∷ 60 ∷ 2 ∷ 54 ∷ 0 ∷ 300 ∷ 75 ∷ 270 ∷ 0 ∷ 30 ∷ 8 ∷ 27 ∷ 0 ∷ []))
    -- Model 3, a unit with a fault, p 100, before the read one, p 300: two Wh by 1 and the rest's 3.
    ∷ answer rules (sheet 3 0 30 0 0 30 0 2 10000 (first 0) (heated 11 2 1000 100 0 ∷ heated 12 0 1000 300 5 ∷ []))
    gives by_ties rules
    (settles 0 (1 ∷ 0 ∷ 0 ∷ 0 ∷ 0 ∷ 0 ∷ 0 ∷ 0 ∷ 1 ∷ 0 ∷ 0 ∷ 0 ∷ 0 ∷ 0 ∷ 0 ∷ 0 ∷ []))
    (settles 0 (0 ∷ 0 ∷ 0 ∷ 0 ∷ 0 ∷ 0 ∷ 0 ∷ 0 ∷ 2 ∷ 0 ∷ 0 ∷ 0 ∷ 0 ∷ 0 ∷ 0 ∷ 0 ∷ []))
    -- Model 3, B = 0, z 50, y 50, H 4 of M 8: two Wh each by p × KF, by p, by litres and by persons, 1 and 3; then one cent by the energies.
    ∷ answer rules (sheet 3 1 30 50 50 30 0 8 100000 (first 4) (unit_bytes 11 0 1 1000 100 0 0 0 1 1 ∷ unit_bytes 12 0 1 1000 300 0 0 0 3 3 ∷ []))
    gives by_ties rules
    (settles 1 (1 ∷ 1 ∷ 1 ∷ 1 ∷ 1 ∷ 0 ∷ 0 ∷ 0 ∷ 1 ∷ 1 ∷ 1 ∷ 1 ∷ 0 ∷ 0 ∷ 0 ∷ 0 ∷ []))
    (settles 1 (0 ∷ 0 ∷ 0 ∷ 0 ∷ 0 ∷ 0 ∷ 0 ∷ 0 ∷ 2 ∷ 2 ∷ 2 ∷ 2 ∷ 1 ∷ 0 ∷ 0 ∷ 0 ∷ []))
    ∷ []

pub cases : RuleSet → List Case
cases rules = cases_a_to_l rules ++ (cases_by_hand rules ++ (cases_by_limits rules ++ cases_by_ties rules))

pub all-cases : (rules : RuleSet) → map given (cases rules) ≡ map expected (cases rules)
unfolding cases cases_a_to_l cases_by_hand cases_by_limits by_areas cases_by_ties risers risers_c one_unread
    unit_bytes joined sheet_bytes in_bytes units_d units_e last_the_rest partly_metered water_sheet every_eighth whole answer month_a heats pool hot_water_of bill_of
    shares_by all any first_refusal unit_row rows sheet_of header_tests row_tests field_rules row_rules sheet_rules
    all_metered metered_sum has_pool total_area unread_weight unread_weights pool_weight reading_sum read_area read_surface area_weight surface_weight read_weight read_weights units_of_class litres_of_class1 persons_of_class2 water_weight
    split_by in_unit_order unit_by_unit hot_water space_heat heat_parts pool_shares read_shares heat common_heat water_parts water common_water energies
    hot_water_wh space_heat_wh zero_water_divisor zero_divisor month_rules bill_cents costs four_and_four statement_of month_of settle_rules settled_sheet
all-cases Archive1 = refl
all-cases Archive2 = refl
all-cases Archive3 = refl

-- Computed cases of groups, from the bytes on, worked by hand, by the rules of each archive version: settled groups with all numbers, ties by both rules (2026-06), unrounded portions,
-- and each refusal with its building, place and order (2026-04).
use Rattle.std.specs.Prelude.{Bool, true, ◌≡◌, refl, ℕ, ◌+◌, ltb, ℤ, pos, neg_ℤ, ◌*ℤ◌, length, get_or, drop, replicate, Ok, Err}
use mathlib.Core.List.{List, [], ◌∷◌, ◌++◌, map, zip_with}
use Rattle.apportion.specs.Shares.{shares_by}
use Rattle.sheet.specs.Tests.{all, any}
use Rattle.sheet.specs.declared.refusal.Refusal.{Refusal}
use Rattle.sheet.specs.declared.refusal.Refusal.TheVariants.{TooShort, HeaderField, RowField, IdOrder, ZeroDivisor, BufferLength, FieldConflict, NegativeCommonHeat, BadGroup}
use Rattle.sheet.specs.Refusals.{first_refusal}
use Rattle.sheet.specs.declared.rule_set.RuleSet.{RuleSet}
use Rattle.sheet.specs.declared.rule_set.RuleSet.TheVariants.{Archive1, Archive2, Archive3}
use Rattle.sheet.specs.Layout.{in_bytes, unit_row, rows, sheet_of}
use Rattle.sheet.specs.Check.{header_tests, row_tests, field_rules, row_rules, sheet_rules}
use Rattle.sheet.specs.Cases.Samples.{zeros, put, unit_bytes, joined as joinedRows, sheet_bytes, heated, sheet_a, case_a, by_ties}
use Rattle.month.specs.Fraction.{Fraction, ◌over◌, ◌+ᶠ◌, ◌-ᶠ◌, portion, portions}
use Rattle.month.specs.Weights.{all_metered, metered_sum, has_pool, total_area, unread_weight, unread_weights, pool_weight, reading_sum, read_area, read_surface, area_weight, surface_weight, read_weight, read_weights, units_of_class, litres_of_class1, persons_of_class2, water_weight}
use Rattle.month.specs.Steps.{unrounded, split_by, in_unit_order, unit_by_unit, hot_water, space_heat, heat_parts, pool_shares, read_shares, heat, common_heat, water_parts, water, common_water}
use Rattle.month.specs.Month.{hot_water_wh, space_heat_wh, zero_water_divisor, zero_divisor, month_rules, four_and_four, settle_rules}
use Rattle.month.specs.Cases.Months.{units_d}
use Rattle.group.specs.declared.buildings.Building.{Building}
use Rattle.group.specs.Group.{difference, joined, difference_shares, common_heats, building_energies, group_energies, shared_price, shared_bill, adjusted_readings, bill_parts, group_costs, common_heat_below_zero, group_units, group_statement}
use Rattle.group.specs.Answer.{group_of, bad_group, GroupAnswer, refused_in, first_in, own_stages, unlike, group_stages, group_answer, place_in, group_after}

-- ---- sheets in bytes: of month 1 and price 10,000, without hot water, if nothing else is said
-- model 2, p 400 and 600: no common heat
by_area : (M : ℕ) → List ℕ
by_area M = sheet_bytes 1 2 0 0 0 0 0 0 M 10000 (zeros 6) (heated 21 0 1000 400 0 ∷ heated 22 0 1000 600 0 ∷ [])

-- model 3, M 500,000, z 20, B = 0, p 400 and 600: units' heat 400,000, common heat 100,000
by_percent : List ℕ
by_percent = sheet_bytes 1 3 0 30 20 0 30 0 500000 10000 (zeros 6) (heated 21 0 1000 400 0 ∷ heated 22 0 1000 600 0 ∷ [])

-- case A with unit 11 without a device: heat 600,000, 66,667, 133,333
case_d : List ℕ
case_d = sheet_a 30 units_d

-- model 5, one unit: heat b, and the rest of M is common heat
by_meter : (M p b : ℕ) → List ℕ
by_meter M p b = sheet_bytes 1 5 0 0 0 0 30 0 M 10000 (zeros 6) (heated 11 0 1000 p b ∷ [])

-- model 2, M 1,000, of which H 600 by a meter of its own; p 100 with ten litres, p 300 with four persons
with_water : List ℕ
with_water = sheet_bytes 1 2 1 0 0 0 0 0 1000 10000 (600 ∷ zeros 5) (unit_bytes 11 0 1 1000 100 0 0 0 10 5 ∷ unit_bytes 12 0 2 1000 300 0 0 0 0 4 ∷ [])

-- model 3, M 8, of which H 4, z 50, y 50, B = 0: all by 1, 3
by_quarters : List ℕ
by_quarters = sheet_bytes 1 3 1 30 50 50 30 0 8 10000 (4 ∷ zeros 5) (unit_bytes 11 0 1 1000 100 0 0 0 1 1 ∷ unit_bytes 12 0 1 1000 300 0 0 0 3 3 ∷ [])

-- Two sheets of price 0 that share 32 bytes. Model 3, M 1,000, z 20: unit 11 with p 99, read; the other with id 5,456,712 (72 + 256 × 67 + 65,536 × 83), status 1, KF 513, p 1.
-- From byte 80 on these 32 also begin a sheet of version 1, month 1, model 2 (513 = 1 + 256 × 2), n 1, M 500 (the q); its h3 .. h6 and its unit with p 50 come after.
overlapping : List ℕ
overlapping = sheet_bytes 1 3 0 30 20 0 30 0 1000 0 (zeros 6) (heated 11 0 1000 99 10 ∷ unit_bytes 5456712 1 0 513 1 0 500 0 0 0 ∷ []) ++ zeros 16 ++ heated 21 0 1000 50 0

-- model 2, M 1,000, one unit: 80 bytes
small : (month price : ℕ) → List ℕ
small month price = sheet_bytes month 2 0 0 0 0 0 0 1000 price (zeros 6) (heated 11 0 1000 100 0 ∷ [])

abbrev good : List ℕ
good = small 1 10000

-- faults: y 1 without hot water, month 13, model 1 with all q 0; in the second of two rows KF 1,001, a status of model 3, the id of the first
abbrev header : List ℕ
header = put 13 1 good

abbrev month13 : List ℕ
month13 = small 13 10000

abbrev no_load : List ℕ
no_load = put 7 1 good

abbrev row : List ℕ
row = put 86 233 (by_area 1000)

abbrev clash : List ℕ
clash = put 84 1 (by_area 1000)

abbrev order : List ℕ
order = put 80 21 (by_area 1000)

-- ---- groups
infix 80 ◌long◌
abbrev ◌long◌ : (offset length : ℕ) → Building
offset long length = record { offset = offset; length = length }

-- sheets one after the other
placed_from : ℕ → List (List ℕ) → List Building
placed_from at [] = []
placed_from at (sheet ∷ sheets) = at long length sheet ∷ placed_from (at + length sheet) sheets

-- so many times the same
abbrev times : ℕ → Building → List Building
times n b = replicate n b

-- ---- what a call gives: the answer, the place that a refusal returns, the list afterwards
record Reply : Type 0 where
  answer : GroupAnswer
  place : ℕ
  list : List ℕ

abbrev place_by : GroupAnswer → ℕ
place_by (Ok tt) = 0
place_by (Err e) = place_in e

-- the list lent
sevens : ℕ → List ℕ
sevens room = replicate room 7

-- buildings of a buffer; sheets one after the other
call : RuleSet → List ℕ → List Building → (reading room : ℕ) → Reply
call rules buffer bs reading room =
    let a = group_answer rules buffer bs reading (sevens room) in
    record { answer = a; place = place_by a; list = group_after rules buffer bs reading (sevens room) }

group : RuleSet → List (List ℕ) → (reading room : ℕ) → Reply
group rules sheets reading room = call rules (joinedRows sheets) (placed_from 0 sheets) reading room

numbers : List ℕ → Reply
numbers list = record { answer = Ok tt; place = 0; list = list }

-- refused, with the list as it was
keeps : Refusal → (building place room : ℕ) → Reply
keeps r building place room = record { answer = Err (refused_in building r); place = place; list = sevens room }

-- ---- the tables: what the definitions give, and what is expected
infix 70 ◌gives◌
data Case : Type 0 where
  ◌gives◌ : Reply → Reply → Case

abbrev given : Case → Reply
given (x gives y) = x

abbrev expected : Case → Reply
expected (x gives y) = y

-- Accepted, one of them by versions 1 and 2 alone. P is 2,000 and 1,000 where case A or D and p 400, 600 go together, so two thirds and one third of the difference.
-- At this price 100 Wh are a cent.
accepted_cases : RuleSet → List Case
accepted_cases rules =
    -- Difference 30,000: 20,000 and 10,000. Common heat 220,000 by 1, 1, 2 and 10,000 by 2, 3. Readings 1,020,000 and 510,000, so of the bill of 15,300 they pay 10,200 and 5,100.
    group rules (case_a ∷ by_area 500000 ∷ []) 1530000 40
    gives numbers (
    116000 ∷ 55000 ∷ 0 ∷ 0 ∷ 1160 ∷ 550 ∷ 0 ∷ 0
    ∷ 228000 ∷ 55000 ∷ 0 ∷ 0 ∷ 2280 ∷ 550 ∷ 0 ∷ 0
    ∷ 456000 ∷ 110000 ∷ 0 ∷ 0 ∷ 4560 ∷ 1100 ∷ 0 ∷ 0
    ∷ 200000 ∷ 4000 ∷ 0 ∷ 0 ∷ 2000 ∷ 40 ∷ 0 ∷ 0
    ∷ 300000 ∷ 6000 ∷ 0 ∷ 0 ∷ 3000 ∷ 60 ∷ 0 ∷ 0
    ∷ []
    )
    -- One Wh more is the first building's (of 20,000.67 and 10,000.33), and its third unit's (of 55,000.25, 55,000.25, 110,000.5). A bill of 15,300.01, parts 10,200.003 and 5,099.997.
    ∷ group rules (case_a ∷ by_area 500000 ∷ []) 1530001 40
    gives numbers (
    116000 ∷ 55000 ∷ 0 ∷ 0 ∷ 1160 ∷ 550 ∷ 0 ∷ 0
    ∷ 228000 ∷ 55000 ∷ 0 ∷ 0 ∷ 2280 ∷ 550 ∷ 0 ∷ 0
    ∷ 456000 ∷ 110001 ∷ 0 ∷ 0 ∷ 4560 ∷ 1100 ∷ 0 ∷ 0
    ∷ 200000 ∷ 4000 ∷ 0 ∷ 0 ∷ 2000 ∷ 40 ∷ 0 ∷ 0
    ∷ 300000 ∷ 6000 ∷ 0 ∷ 0 ∷ 3000 ∷ 60 ∷ 0 ∷ 0
    ∷ []
    )
    -- The second M 200,000, the difference again 30,000: readings 1,020,000 and 210,000, so of 12,300 cents 10,200 and 2,100; by the M they would be 10,250 and 2,050.
    ∷ group rules (case_a ∷ by_area 200000 ∷ []) 1230000 40
    gives numbers (
    116000 ∷ 55000 ∷ 0 ∷ 0 ∷ 1160 ∷ 550 ∷ 0 ∷ 0
    ∷ 228000 ∷ 55000 ∷ 0 ∷ 0 ∷ 2280 ∷ 550 ∷ 0 ∷ 0
    ∷ 456000 ∷ 110000 ∷ 0 ∷ 0 ∷ 4560 ∷ 1100 ∷ 0 ∷ 0
    ∷ 80000 ∷ 4000 ∷ 0 ∷ 0 ∷ 800 ∷ 40 ∷ 0 ∷ 0
    ∷ 120000 ∷ 6000 ∷ 0 ∷ 0 ∷ 1200 ∷ 60 ∷ 0 ∷ 0
    ∷ []
    )
    -- The first with a unit that isn't read: its p counts, so 20,000 and 10,000 as before. Of 10,200 cents 666.67 and 1,333.33 are due to 66,667 and 133,333 Wh.
    ∷ group rules (case_d ∷ by_area 500000 ∷ []) 1530000 40
    gives numbers (
    600000 ∷ 55000 ∷ 0 ∷ 0 ∷ 6000 ∷ 550 ∷ 0 ∷ 0
    ∷ 66667 ∷ 55000 ∷ 0 ∷ 0 ∷ 667 ∷ 550 ∷ 0 ∷ 0
    ∷ 133333 ∷ 110000 ∷ 0 ∷ 0 ∷ 1333 ∷ 1100 ∷ 0 ∷ 0
    ∷ 200000 ∷ 4000 ∷ 0 ∷ 0 ∷ 2000 ∷ 40 ∷ 0 ∷ 0
    ∷ 300000 ∷ 6000 ∷ 0 ∷ 0 ∷ 3000 ∷ 60 ∷ 0 ∷ 0
    ∷ []
    )
    -- Difference −30,000: 20,000 and 10,000 taken. Common heat 180,000 and 90,000, readings 980,000 and 490,000, bill 14,700: 9,800 and 4,900.
    ∷ group rules (case_a ∷ by_percent ∷ []) 1470000 40
    gives numbers (
    116000 ∷ 45000 ∷ 0 ∷ 0 ∷ 1160 ∷ 450 ∷ 0 ∷ 0
    ∷ 228000 ∷ 45000 ∷ 0 ∷ 0 ∷ 2280 ∷ 450 ∷ 0 ∷ 0
    ∷ 456000 ∷ 90000 ∷ 0 ∷ 0 ∷ 4560 ∷ 900 ∷ 0 ∷ 0
    ∷ 160000 ∷ 36000 ∷ 0 ∷ 0 ∷ 1600 ∷ 360 ∷ 0 ∷ 0
    ∷ 240000 ∷ 54000 ∷ 0 ∷ 0 ∷ 2400 ∷ 540 ∷ 0 ∷ 0
    ∷ []
    )
    -- One Wh less: 20,001 and 10,000 taken, as of a positive one. Common heat 179,999 by 1, 1, 2: 44,999.75 twice and 89,999.5, two left over. Bill 14,699.99.
    ∷ group rules (case_a ∷ by_percent ∷ []) 1469999 40
    gives numbers (
    116000 ∷ 45000 ∷ 0 ∷ 0 ∷ 1160 ∷ 450 ∷ 0 ∷ 0
    ∷ 228000 ∷ 45000 ∷ 0 ∷ 0 ∷ 2280 ∷ 450 ∷ 0 ∷ 0
    ∷ 456000 ∷ 89999 ∷ 0 ∷ 0 ∷ 4560 ∷ 900 ∷ 0 ∷ 0
    ∷ 160000 ∷ 36000 ∷ 0 ∷ 0 ∷ 1600 ∷ 360 ∷ 0 ∷ 0
    ∷ 240000 ∷ 54000 ∷ 0 ∷ 0 ∷ 2400 ∷ 540 ∷ 0 ∷ 0
    ∷ []
    )
    -- Difference −1: of 2/3 and 1/3 the first building gives the Wh; the second, without common heat, gives 0. Common heat 199,999: 49,999.75 twice and 99,999.5, two left over.
    ∷ group rules (case_a ∷ by_area 500000 ∷ []) 1499999 40
    gives numbers (
    116000 ∷ 50000 ∷ 0 ∷ 0 ∷ 1160 ∷ 500 ∷ 0 ∷ 0
    ∷ 228000 ∷ 50000 ∷ 0 ∷ 0 ∷ 2280 ∷ 500 ∷ 0 ∷ 0
    ∷ 456000 ∷ 99999 ∷ 0 ∷ 0 ∷ 4560 ∷ 1000 ∷ 0 ∷ 0
    ∷ 200000 ∷ 0 ∷ 0 ∷ 0 ∷ 2000 ∷ 0 ∷ 0 ∷ 0
    ∷ 300000 ∷ 0 ∷ 0 ∷ 0 ∷ 3000 ∷ 0 ∷ 0 ∷ 0
    ∷ []
    )
    -- Difference −300,000 takes both common heats, 200,000 and 100,000, exactly to 0.
    ∷ group rules (case_a ∷ by_percent ∷ []) 1200000 40
    gives numbers (
    116000 ∷ 0 ∷ 0 ∷ 0 ∷ 1160 ∷ 0 ∷ 0 ∷ 0
    ∷ 228000 ∷ 0 ∷ 0 ∷ 0 ∷ 2280 ∷ 0 ∷ 0 ∷ 0
    ∷ 456000 ∷ 0 ∷ 0 ∷ 0 ∷ 4560 ∷ 0 ∷ 0 ∷ 0
    ∷ 160000 ∷ 0 ∷ 0 ∷ 0 ∷ 1600 ∷ 0 ∷ 0 ∷ 0
    ∷ 240000 ∷ 0 ∷ 0 ∷ 0 ∷ 2400 ∷ 0 ∷ 0 ∷ 0
    ∷ []
    )
    -- Difference −8,000,000,000, past 32 bits: 4,000,000,000 each, all that there is.
    ∷ call rules (by_meter 4000000000 100 0) (times 2 (0 long 80)) 0 16 gives numbers (0 ∷ 0 ∷ 0 ∷ 0 ∷ 0 ∷ 0 ∷ 0 ∷ 0 ∷ 0 ∷ 0 ∷ 0 ∷ 0 ∷ 0 ∷ 0 ∷ 0 ∷ 0 ∷ [])
    -- Difference −11,999,999,996, by three equal P 3,999,999,998.67 each: the first two give 3,999,999,999. A bill of 0.04.
    ∷ call rules (by_meter 4000000000 100 0) (times 3 (0 long 80)) 4 24
    gives numbers (0 ∷ 1 ∷ 0 ∷ 0 ∷ 0 ∷ 0 ∷ 0 ∷ 0 ∷ 0 ∷ 1 ∷ 0 ∷ 0 ∷ 0 ∷ 0 ∷ 0 ∷ 0 ∷ 0 ∷ 2 ∷ 0 ∷ 0 ∷ 0 ∷ 0 ∷ 0 ∷ 0 ∷ [])
    -- One building with its own M: case A's statement. At the shared reading's limit: common heat 200,000 + 3,999,000,000 by 1, 1, 2, a bill of 40,000,000.
    ∷ group rules (case_a ∷ []) 1000000 24
    gives numbers (
    116000 ∷ 50000 ∷ 0 ∷ 0 ∷ 1160 ∷ 500 ∷ 0 ∷ 0
    ∷ 228000 ∷ 50000 ∷ 0 ∷ 0 ∷ 2280 ∷ 500 ∷ 0 ∷ 0
    ∷ 456000 ∷ 100000 ∷ 0 ∷ 0 ∷ 4560 ∷ 1000 ∷ 0 ∷ 0
    ∷ []
    )
    ∷ group rules (case_a ∷ []) 4000000000 24
    gives numbers (
    116000 ∷ 999800000 ∷ 0 ∷ 0 ∷ 1160 ∷ 9998000 ∷ 0 ∷ 0
    ∷ 228000 ∷ 999800000 ∷ 0 ∷ 0 ∷ 2280 ∷ 9998000 ∷ 0 ∷ 0
    ∷ 456000 ∷ 1999600000 ∷ 0 ∷ 0 ∷ 4560 ∷ 19996000 ∷ 0 ∷ 0
    ∷ []
    )
    -- Water stays as it is: heat 400 by 1, 3; H 600 by 1 × 10 × 4 and 1 × 4 × 10; difference 200 by 1, 3. Of twelve cents 0.5 and 1.5 are due to 50 and 150 Wh: a tie within the building.
    ∷ group rules (with_water ∷ []) 1200 16
    gives by_ties rules
    (numbers (100 ∷ 50 ∷ 300 ∷ 0 ∷ 1 ∷ 1 ∷ 3 ∷ 0 ∷ 300 ∷ 150 ∷ 300 ∷ 0 ∷ 3 ∷ 1 ∷ 3 ∷ 0 ∷ []))
    (numbers (100 ∷ 50 ∷ 300 ∷ 0 ∷ 1 ∷ 0 ∷ 3 ∷ 0 ∷ 300 ∷ 150 ∷ 300 ∷ 0 ∷ 3 ∷ 2 ∷ 3 ∷ 0 ∷ []))
    -- Ties in a building's steps: 0.5 and 1.5 of heat, water and common water; with the difference 4 there are six Wh of common heat, 1.5 and 4.5.
    ∷ group rules (by_quarters ∷ []) 12 16
    gives by_ties rules
    (numbers (1 ∷ 2 ∷ 1 ∷ 1 ∷ 0 ∷ 0 ∷ 0 ∷ 0 ∷ 1 ∷ 4 ∷ 1 ∷ 1 ∷ 0 ∷ 0 ∷ 0 ∷ 0 ∷ []))
    (numbers (0 ∷ 1 ∷ 0 ∷ 0 ∷ 0 ∷ 0 ∷ 0 ∷ 0 ∷ 2 ∷ 5 ∷ 2 ∷ 2 ∷ 0 ∷ 0 ∷ 0 ∷ 0 ∷ []))
    -- A tie in the difference 402 by P 100 and 300: 100.5 and 301.5. The bill is 24.02 and has none.
    ∷ group rules (by_meter 1000 100 1000 ∷ by_meter 1000 300 1000 ∷ []) 2402 16
    gives by_ties rules
    (numbers (1000 ∷ 101 ∷ 0 ∷ 0 ∷ 10 ∷ 1 ∷ 0 ∷ 0 ∷ 1000 ∷ 301 ∷ 0 ∷ 0 ∷ 10 ∷ 3 ∷ 0 ∷ 0 ∷ []))
    (numbers (1000 ∷ 100 ∷ 0 ∷ 0 ∷ 10 ∷ 1 ∷ 0 ∷ 0 ∷ 1000 ∷ 302 ∷ 0 ∷ 0 ∷ 10 ∷ 3 ∷ 0 ∷ 0 ∷ []))
    -- In the difference −2 by P 100 and 300: one each, or both from the second building, whose common heat is 2. If it is 1, version 3 refuses with 21.
    ∷ group rules (by_meter 10 100 0 ∷ by_meter 10 300 8 ∷ []) 18 16
    gives by_ties rules
    (numbers (0 ∷ 9 ∷ 0 ∷ 0 ∷ 0 ∷ 0 ∷ 0 ∷ 0 ∷ 8 ∷ 1 ∷ 0 ∷ 0 ∷ 0 ∷ 0 ∷ 0 ∷ 0 ∷ []))
    (numbers (0 ∷ 10 ∷ 0 ∷ 0 ∷ 0 ∷ 0 ∷ 0 ∷ 0 ∷ 8 ∷ 0 ∷ 0 ∷ 0 ∷ 0 ∷ 0 ∷ 0 ∷ 0 ∷ []))
    ∷ group rules (by_meter 10 100 0 ∷ by_meter 10 300 9 ∷ []) 18 16
    gives by_ties rules (numbers (0 ∷ 9 ∷ 0 ∷ 0 ∷ 0 ∷ 0 ∷ 0 ∷ 0 ∷ 9 ∷ 0 ∷ 0 ∷ 0 ∷ 0 ∷ 0 ∷ 0 ∷ 0 ∷ [])) (keeps NegativeCommonHeat 0 0 16)
    -- In the shared bill: two cents by readings of 50 and 150. The areas, the other way round, play no part.
    ∷ group rules (by_meter 50 300 50 ∷ by_meter 150 100 150 ∷ []) 200 16
    gives by_ties rules
    (numbers (50 ∷ 0 ∷ 0 ∷ 0 ∷ 1 ∷ 0 ∷ 0 ∷ 0 ∷ 150 ∷ 0 ∷ 0 ∷ 0 ∷ 1 ∷ 0 ∷ 0 ∷ 0 ∷ []))
    (numbers (50 ∷ 0 ∷ 0 ∷ 0 ∷ 0 ∷ 0 ∷ 0 ∷ 0 ∷ 150 ∷ 0 ∷ 0 ∷ 0 ∷ 2 ∷ 0 ∷ 0 ∷ 0 ∷ []))
    -- Equal weights: the earlier by all rules. One Wh by equal P; readings 51, 50, 50, so of two cents 0.675, 0.662, 0.662 are due.
    ∷ call rules (by_meter 50 100 50) (times 3 (0 long 80)) 151 24
    gives numbers (50 ∷ 1 ∷ 0 ∷ 0 ∷ 1 ∷ 0 ∷ 0 ∷ 0 ∷ 50 ∷ 0 ∷ 0 ∷ 0 ∷ 1 ∷ 0 ∷ 0 ∷ 0 ∷ 50 ∷ 0 ∷ 0 ∷ 0 ∷ 0 ∷ 0 ∷ 0 ∷ 0 ∷ [])
    -- The same sheet twice, no difference: case A's statement twice.
    ∷ call rules case_a (times 2 (0 long 144)) 2000000 48
    gives numbers (
    116000 ∷ 50000 ∷ 0 ∷ 0 ∷ 1160 ∷ 500 ∷ 0 ∷ 0
    ∷ 228000 ∷ 50000 ∷ 0 ∷ 0 ∷ 2280 ∷ 500 ∷ 0 ∷ 0
    ∷ 456000 ∷ 100000 ∷ 0 ∷ 0 ∷ 4560 ∷ 1000 ∷ 0 ∷ 0
    ∷ 116000 ∷ 50000 ∷ 0 ∷ 0 ∷ 1160 ∷ 500 ∷ 0 ∷ 0
    ∷ 228000 ∷ 50000 ∷ 0 ∷ 0 ∷ 2280 ∷ 500 ∷ 0 ∷ 0
    ∷ 456000 ∷ 100000 ∷ 0 ∷ 0 ∷ 4560 ∷ 1000 ∷ 0 ∷ 0
    ∷ []
    )
    -- Overlapping sheets: heat 800 by 15,390 (1 × 513 × 30) and 984,610, so 12.31 and 787.69; heat 500. Difference 300 by P 100 and 50: common heat 200 + 200 by 99, 1, and 100.
    ∷ call rules overlapping (0 long 112 ∷ 80 long 80 ∷ []) 1800 24
    gives numbers (788 ∷ 396 ∷ 0 ∷ 0 ∷ 0 ∷ 0 ∷ 0 ∷ 0 ∷ 12 ∷ 4 ∷ 0 ∷ 0 ∷ 0 ∷ 0 ∷ 0 ∷ 0 ∷ 500 ∷ 100 ∷ 0 ∷ 0 ∷ 0 ∷ 0 ∷ 0 ∷ 0 ∷ [])
    ∷ []

accepted_cases_lem : (rules : RuleSet) → map given (accepted_cases rules) ≡ map expected (accepted_cases rules)
unfolding zip_with accepted_cases sevens call group numbers keeps placed_from by_area by_percent units_d case_d by_meter with_water by_quarters overlapping unit_bytes joinedRows sheet_bytes in_bytes
    shares_by all any first_refusal unit_row rows sheet_of header_tests row_tests field_rules row_rules sheet_rules
    all_metered metered_sum has_pool total_area unread_weight unread_weights pool_weight reading_sum read_area read_surface area_weight surface_weight read_weight read_weights units_of_class litres_of_class1 persons_of_class2 water_weight
    split_by in_unit_order unit_by_unit hot_water space_heat heat_parts pool_shares read_shares heat common_heat water_parts water common_water
    hot_water_wh space_heat_wh zero_water_divisor zero_divisor month_rules four_and_four settle_rules
    difference joined difference_shares common_heats building_energies group_energies shared_price shared_bill adjusted_readings bill_parts group_costs common_heat_below_zero group_units group_statement
    group_of bad_group first_in own_stages unlike group_stages group_answer group_after
accepted_cases_lem Archive1 = refl
accepted_cases_lem Archive2 = refl
accepted_cases_lem Archive3 = refl

-- Refused: the refusal, the building, the place raised by 160 × the building, and a list that keeps its sevens.
refused_cases : RuleSet → List Case
refused_cases rules =
    -- 22: no building; 13, where 12 get to the first one's own; a reading over its limit, where the limit itself gets there.
    call rules [] [] 0 3 gives keeps BadGroup 0 0 3
    ∷ call rules [] (times 13 (0 long 0)) 0 3 gives keeps BadGroup 0 0 3
    ∷ call rules [] (times 12 (0 long 0)) 0 3 gives keeps TooShort 0 0 3
    ∷ call rules [] (0 long 0 ∷ []) 4000000001 3 gives keeps BadGroup 0 0 3
    ∷ call rules [] (0 long 0 ∷ []) 4000000000 3 gives keeps TooShort 0 0 3
    -- 22: one past the end of 80 bytes, by length, by offset, without a length; the end itself passes. Sums of 2^64 + 80, 2^64, 2^64 − 1 and 2^65 − 2.
    ∷ call rules good (0 long 81 ∷ []) 1000 8 gives keeps BadGroup 0 0 8
    ∷ call rules good (1 long 80 ∷ []) 1000 8 gives keeps BadGroup 0 0 8
    ∷ call rules good (81 long 0 ∷ []) 1000 8 gives keeps BadGroup 0 0 8
    ∷ call rules good (80 long 0 ∷ []) 1000 8 gives keeps TooShort 0 0 8
    ∷ call rules good (18446744073709551615 long 81 ∷ []) 1000 8 gives keeps BadGroup 0 0 8
    ∷ call rules good (18446744073709551536 long 80 ∷ []) 1000 8 gives keeps BadGroup 0 0 8
    ∷ call rules good (0 long 18446744073709551615 ∷ []) 1000 8 gives keeps BadGroup 0 0 8
    ∷ call rules good (18446744073709551615 long 18446744073709551615 ∷ []) 1000 8 gives keeps BadGroup 0 0 8
    -- 22 of the second building before the first one's own.
    ∷ call rules good (0 long 0 ∷ 1 long 80 ∷ []) 1000 8 gives keeps BadGroup 0 0 8
    -- A building's own, at 160 × the building: 1, 4 with its byte, 6, 20 and 7 with the row, 9.
    ∷ call rules good (0 long 80 ∷ 0 long 47 ∷ []) 1000 16 gives keeps TooShort 1 160 16
    ∷ group rules (good ∷ header ∷ []) 2000 16 gives keeps (HeaderField 13) 1 173 16
    ∷ group rules (good ∷ row ∷ []) 2000 24 gives keeps (RowField 1) 1 161 24
    ∷ group rules (good ∷ clash ∷ []) 2000 24 gives keeps (FieldConflict 1) 1 161 24
    ∷ group rules (good ∷ order ∷ []) 2000 24 gives keeps (IdOrder 1) 1 161 24
    ∷ group rules (good ∷ no_load ∷ []) 2000 16 gives keeps ZeroDivisor 1 160 16
    ∷ group rules (header ∷ good ∷ []) 2000 16 gives keeps (HeaderField 13) 0 13 16
    ∷ group rules (good ∷ good ∷ month13 ∷ []) 3000 24 gives keeps (HeaderField 6) 2 326 24
    ∷ call rules good (times 11 (0 long 80) ++ 0 long 0 ∷ []) 12000 96 gives keeps TooShort 11 1760 96
    -- The first building's before the second's, though its number is larger.
    ∷ group rules (row ∷ header ∷ []) 2000 24 gives keeps (RowField 1) 0 1 24
    ∷ group rules (no_load ∷ header ∷ []) 2000 16 gives keeps ZeroDivisor 0 0 16
    -- A building's own before the months and prices that differ, and before a list of another length.
    ∷ group rules (small 2 9999 ∷ header ∷ []) 2000 16 gives keeps (HeaderField 13) 1 173 16
    ∷ group rules (small 2 9999 ∷ good ∷ no_load ∷ []) 3000 3 gives keeps ZeroDivisor 2 320 3
    -- 22 again: by the month, by the price, by the third building's; before 13, and before 21.
    ∷ group rules (good ∷ small 2 10000 ∷ []) 2000 16 gives keeps BadGroup 0 0 16
    ∷ group rules (good ∷ small 1 10001 ∷ []) 2000 16 gives keeps BadGroup 0 0 16
    ∷ group rules (good ∷ good ∷ small 1 9999 ∷ []) 3000 24 gives keeps BadGroup 0 0 24
    ∷ group rules (good ∷ small 2 10000 ∷ []) 2000 15 gives keeps BadGroup 0 0 15
    ∷ group rules (good ∷ small 2 10000 ∷ []) 1999 16 gives keeps BadGroup 0 0 16
    -- 13: one number too few, one too many, the first building's alone. M 1,000 each, so 1,999 is 21 for the first building; 13 comes before it.
    ∷ group rules (good ∷ good ∷ []) 2000 15 gives keeps BufferLength 0 0 15
    ∷ group rules (good ∷ good ∷ []) 2000 17 gives keeps BufferLength 0 0 17
    ∷ group rules (good ∷ good ∷ []) 2000 8 gives keeps BufferLength 0 0 8
    ∷ group rules (good ∷ good ∷ []) 1999 15 gives keeps BufferLength 0 0 15
    ∷ group rules (good ∷ good ∷ []) 1999 16 gives keeps NegativeCommonHeat 0 0 16
    -- 21: difference −2 of P 2,000 and 1,000 is 1.33 and 0.67, so 1 each, and the second building has no common heat. One Wh past the 200,000 and 100,000 of common heat.
    ∷ group rules (case_a ∷ by_area 500000 ∷ []) 1499998 40 gives keeps NegativeCommonHeat 0 0 40
    ∷ group rules (case_a ∷ by_percent ∷ []) 1199999 40 gives keeps NegativeCommonHeat 0 0 40
    ∷ []

refused_cases_lem : (rules : RuleSet) → map given (refused_cases rules) ≡ map expected (refused_cases rules)
unfolding zip_with refused_cases sevens call group keeps placed_from by_area by_percent small unit_bytes joinedRows sheet_bytes in_bytes
    shares_by all any first_refusal unit_row rows sheet_of header_tests row_tests field_rules row_rules sheet_rules
    all_metered metered_sum has_pool total_area unread_weight unread_weights read_surface units_of_class litres_of_class1 persons_of_class2
    split_by hot_water space_heat heat_parts
    hot_water_wh space_heat_wh zero_water_divisor zero_divisor month_rules settle_rules
    difference difference_shares common_heat_below_zero group_units
    group_of bad_group first_in own_stages unlike group_stages group_answer group_after
refused_cases_lem Archive1 = refl
refused_cases_lem Archive2 = refl
refused_cases_lem Archive3 = refl

-- ---- the unrounded portions, four a unit: heat, common heat, water, common water
infix 70 ◌equal◌
data PortionCase : Type 0 where
  ◌equal◌ : List Fraction → List Fraction → PortionCase

portions_of : RuleSet → List (List ℕ) → (reading : ℕ) → List Fraction
portions_of rules sheets reading = group_energies unrounded rules (group_of sheets reading)

infix 80 minus◌over◌
abbrev minus◌over◌ : ℕ → ℕ → Fraction
minus a over b = record { upper = neg_ℤ (pos a); lower = b }

portion_cases : RuleSet → List PortionCase
portion_cases rules =
    -- Difference 30,001: 60,002/3 and 30,001/3. Common heat 660,002/3 by 1, 1, 2, and 30,001/3 by 2, 3.
    portions_of rules (case_a ∷ by_area 500000 ∷ []) 1530001
    equal (
    116000 over 1 ∷ 330001 over 6 ∷ 0 over 1 ∷ 0 over 1
    ∷ 228000 over 1 ∷ 330001 over 6 ∷ 0 over 1 ∷ 0 over 1
    ∷ 456000 over 1 ∷ 330001 over 3 ∷ 0 over 1 ∷ 0 over 1
    ∷ 200000 over 1 ∷ 60002 over 15 ∷ 0 over 1 ∷ 0 over 1
    ∷ 300000 over 1 ∷ 30001 over 5 ∷ 0 over 1 ∷ 0 over 1
    ∷ []
    )
    -- Difference −30,001: common heat 200,000 − 60,002/3 = 539,998/3 and 100,000 − 30,001/3 = 269,999/3.
    ∷ portions_of rules (case_a ∷ by_percent ∷ []) 1469999
    equal (
    116000 over 1 ∷ 269999 over 6 ∷ 0 over 1 ∷ 0 over 1
    ∷ 228000 over 1 ∷ 269999 over 6 ∷ 0 over 1 ∷ 0 over 1
    ∷ 456000 over 1 ∷ 269999 over 3 ∷ 0 over 1 ∷ 0 over 1
    ∷ 160000 over 1 ∷ 539998 over 15 ∷ 0 over 1 ∷ 0 over 1
    ∷ 240000 over 1 ∷ 269999 over 5 ∷ 0 over 1 ∷ 0 over 1
    ∷ []
    )
    -- Difference −1: common heat 200,000 − 2/3 = 599,998/3 and, below 0, −1/3.
    ∷ portions_of rules (case_a ∷ by_area 500000 ∷ []) 1499999
    equal (
    116000 over 1 ∷ 299999 over 6 ∷ 0 over 1 ∷ 0 over 1
    ∷ 228000 over 1 ∷ 299999 over 6 ∷ 0 over 1 ∷ 0 over 1
    ∷ 456000 over 1 ∷ 299999 over 3 ∷ 0 over 1 ∷ 0 over 1
    ∷ 200000 over 1 ∷ minus 2 over 15 ∷ 0 over 1 ∷ 0 over 1
    ∷ 300000 over 1 ∷ minus 1 over 5 ∷ 0 over 1 ∷ 0 over 1
    ∷ []
    )
    ∷ []

-- equal up to a common factor, upper × other lower = other upper × lower, the lower above 0; as many of the one as of the other
record Crossed : Type 0 where
  product : ℤ
  above0 : Bool

given_products : List Fraction → List Fraction → List Crossed
given_products [] gs = []
given_products (f ∷ fs) gs = record { product = f.upper *ℤ pos (get_or gs 0 (0 over 1)).lower; above0 = ltb 0 f.lower } ∷ given_products fs (drop 1 gs)

expected_products : List Fraction → List Fraction → List Crossed
expected_products fs [] = []
expected_products fs (g ∷ gs) = record { product = g.upper *ℤ pos (get_or fs 0 (0 over 1)).lower; above0 = true } ∷ expected_products (drop 1 fs) gs

given_in : PortionCase → List Crossed
given_in (fs equal gs) = given_products fs gs

expected_in : PortionCase → List Crossed
expected_in (fs equal gs) = expected_products fs gs

portion_cases_lem : (rules : RuleSet) → map given_in (portion_cases rules) ≡ map expected_in (portion_cases rules)
unfolding zip_with portion_cases portions_of given_in expected_in given_products expected_products by_area by_percent unit_bytes joinedRows sheet_bytes in_bytes
    shares_by all unit_row rows sheet_of ◌+ᶠ◌ ◌-ᶠ◌ portion portions
    all_metered metered_sum total_area unread_weight unread_weights pool_weight reading_sum read_area read_surface area_weight surface_weight read_weight read_weights units_of_class litres_of_class1 persons_of_class2 water_weight
    split_by in_unit_order unit_by_unit hot_water space_heat heat_parts pool_shares read_shares heat common_heat water_parts water common_water
    group_of difference joined difference_shares common_heats building_energies group_energies
portion_cases_lem Archive1 = refl
portion_cases_lem Archive2 = refl
portion_cases_lem Archive3 = refl

-- ---- places: raised by 160 × the building, 0 and 4's byte too
abbrev raised : (building : ℕ) → Refusal → ℕ
raised building r = place_in (refused_in building r)

places :
    raised 0 TooShort ∷ raised 0 (HeaderField 44) ∷ raised 0 (RowField 159)
    ∷ raised 1 TooShort ∷ raised 1 (HeaderField 44) ∷ raised 1 (RowField 159)
    ∷ raised 11 ZeroDivisor ∷ raised 11 (IdOrder 159)
    ∷ []
    ≡ 0 ∷ 44 ∷ 159 ∷ 160 ∷ 204 ∷ 319 ∷ 1760 ∷ 1919 ∷ []
places = refl

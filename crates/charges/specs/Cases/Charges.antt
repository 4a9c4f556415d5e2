-- Computed cases of fixed charges, from the sheet's bytes on, worked by hand, by the rules of each archive version: accepted calls with all numbers, ties by both rules (2026-06),
-- and each refusal with its place and order (2026-05).
use Rattle.std.specs.Prelude.{◌≡◌, refl, List, [], ◌∷◌, ◌++◌, map, ℕ, replicate, Ok, Err}
use Rattle.apportion.specs.Shares.{shares_by}
use Rattle.sheet.specs.Tests.{all, any}
use Rattle.sheet.specs.declared.refusal.Refusal.{Refusal}
use Rattle.sheet.specs.declared.refusal.Refusal.TheVariants.{TooShort, BadMagic, UnsupportedVersion, HeaderField, WrongLength, RowField, IdOrder, HotWaterExceedsMeter, ZeroDivisor, NoReadings, MetersExceedHeat, UnmeteredExceedsHeat, BufferLength, FieldConflict}
use Rattle.sheet.specs.Refusals.{Outcome, first_refusal}
use Rattle.sheet.specs.declared.rule_set.RuleSet.{RuleSet}
use Rattle.sheet.specs.declared.rule_set.RuleSet.TheVariants.{Archive1, Archive2, Archive3}
use Rattle.sheet.specs.Layout.{in_bytes, unit_row, rows, sheet_of}
use Rattle.sheet.specs.Check.{header_tests, row_tests, field_rules, row_rules, sheet_rules}
use Rattle.sheet.specs.Cases.Samples.{put, unit_bytes, joined, sheet_bytes, simple, sized, good, order, watered, unsettled, by_ties, place_by}
use Rattle.month.specs.Weights.{all_metered, metered_sum, has_pool, total_area, unread_weight, unread_weights, read_surface, units_of_class, litres_of_class1, persons_of_class2}
use Rattle.month.specs.Steps.{split_by, hot_water, space_heat, heat_parts}
use Rattle.month.specs.Month.{hot_water_wh, space_heat_wh, zero_water_divisor, zero_divisor, month_rules, settle_rules}
use Rattle.charges.specs.Charges.{amounts, charge_weights, columns, by_unit, fixed_charges}
use Rattle.charges.specs.Answer.{over_limit, no_load, call_rules, charge_answer, charges_after}

-- ---- sheets in bytes
-- p by 5, 3, 2 and q by 1, 2, 7
unfoldable pub three : (model : ℕ) → List ℕ
three model = simple model (sized 11 500 1000 ∷ sized 12 300 2000 ∷ sized 13 200 7000 ∷ [])

-- p 1, 3, 4 and q 1, 1, 1
ties : List ℕ
ties = simple 1 (sized 11 1 1 ∷ sized 12 3 1 ∷ sized 13 4 1 ∷ [])

-- the first unit's q is 0
one_without : List ℕ
one_without = simple 1 (sized 11 500 0 ∷ sized 12 250 900 ∷ sized 13 250 900 ∷ [])

-- p and q at their limits
alone : List ℕ
alone = simple 1 (sized 11 10000 100000 ∷ [])

-- p by 2, 3; all q zero
loadless : List ℕ
loadless = simple 1 (sized 11 400 0 ∷ sized 12 600 0 ∷ [])

settling : List ℕ → Outcome
settling bytes = first_refusal (settle_rules bytes)

-- 8 to 12
not-settled : map settling unsettled ≡ Err HotWaterExceedsMeter ∷ Err ZeroDivisor ∷ Err NoReadings ∷ Err MetersExceedHeat ∷ Err UnmeteredExceedsHeat ∷ []
unfolding unsettled settling unit_bytes joined sheet_bytes in_bytes
    shares_by all any first_refusal unit_row rows sheet_of header_tests row_tests field_rules row_rules sheet_rules
    all_metered metered_sum has_pool total_area unread_weight unread_weights read_surface units_of_class litres_of_class1 persons_of_class2
    split_by hot_water space_heat heat_parts hot_water_wh space_heat_wh zero_water_divisor zero_divisor month_rules settle_rules
not-settled = refl

-- ---- what a call gives: the outcome, the place that a refusal returns, the list afterwards
record Reply : Type 0 where
  outcome : Outcome
  place : ℕ
  list : List ℕ

-- the list lent
sevens : ℕ → List ℕ
sevens room = replicate room 7

call : RuleSet → (bytes : List ℕ) → (model power buyer supplier room : ℕ) → Reply
call rules bytes model power buyer supplier room =
    let a = amounts power buyer supplier in
    let answer = charge_answer bytes model a (sevens room) in
    record { outcome = answer; place = place_by answer; list = charges_after rules bytes model a (sevens room) }

numbers : List ℕ → Reply
numbers list = record { outcome = Ok tt; place = 0; list = list }

-- refused, with the list as it was
keeps : Refusal → (place room : ℕ) → Reply
keeps r place room = record { outcome = Err r; place = place; list = sevens room }

-- ---- the table: what the definitions give, and what is expected
infix 70 ◌gives◌
data Case : Type 0 where
  ◌gives◌ : Reply → Reply → Case

abbrev given : Case → Reply
given (x gives y) = x

abbrev expected : Case → Reply
expected (x gives y) = y

-- Accepted: power, buyer's fee and supplier's fee, unit by unit.
accepted_cases : RuleSet → List Case
accepted_cases rules =
    -- 1S: of 204 cents 20.4, 40.8, 142.8 are due, of 33 3.3, 6.6, 23.1. The sheet's own model doesn't matter.
    call rules (three 1) 1 1000 204 33 9 gives numbers (100 ∷ 20 ∷ 3 ∷ 200 ∷ 41 ∷ 7 ∷ 700 ∷ 143 ∷ 23 ∷ [])
    ∷ call rules (three 2) 1 1000 204 33 9 gives numbers (100 ∷ 20 ∷ 3 ∷ 200 ∷ 41 ∷ 7 ∷ 700 ∷ 143 ∷ 23 ∷ [])
    -- 2S: 102, 61.2, 40.8 and 16.5, 9.9, 6.6.
    ∷ call rules (three 2) 2 1000 204 33 9 gives numbers (500 ∷ 102 ∷ 16 ∷ 300 ∷ 61 ∷ 10 ∷ 200 ∷ 41 ∷ 7 ∷ [])
    ∷ call rules (three 1) 2 1000 204 33 9 gives numbers (500 ∷ 102 ∷ 16 ∷ 300 ∷ 61 ∷ 10 ∷ 200 ∷ 41 ∷ 7 ∷ [])
    -- Ties by equal q: 10 in thirds is 4, 3, 3; 11 is 4, 4, 3; 1 is 1, 0, 0.
    ∷ call rules ties 1 10 11 1 9 gives numbers (4 ∷ 4 ∷ 1 ∷ 3 ∷ 4 ∷ 0 ∷ 3 ∷ 3 ∷ 0 ∷ [])
    -- Ties by p 1 and 3: 0.5, 1.5, 2 and 1.5, 4.5, 6. Of 7 cents 0.875, 2.625, 3.5 are due: two left over, for the first two.
    ∷ call rules ties 2 4 12 7 9 gives by_ties rules (numbers (1 ∷ 2 ∷ 1 ∷ 1 ∷ 4 ∷ 3 ∷ 2 ∷ 6 ∷ 3 ∷ [])) (numbers (0 ∷ 1 ∷ 1 ∷ 2 ∷ 5 ∷ 3 ∷ 2 ∷ 6 ∷ 3 ∷ []))
    -- By q 1 and 3, where p is 2 and 3: 0.5 and 1.5, 1.5 and 4.5, 2.5 and 7.5.
    ∷ call rules good 1 2 6 10 6 gives by_ties rules (numbers (1 ∷ 2 ∷ 3 ∷ 1 ∷ 4 ∷ 7 ∷ [])) (numbers (0 ∷ 1 ∷ 2 ∷ 2 ∷ 5 ∷ 8 ∷ []))
    -- At the limit: in thirds, by 1, 3, 4, and of one unit.
    ∷ call rules ties 1 100000000 100000000 100000000 9
    gives numbers (33333334 ∷ 33333334 ∷ 33333334 ∷ 33333333 ∷ 33333333 ∷ 33333333 ∷ 33333333 ∷ 33333333 ∷ 33333333 ∷ [])
    ∷ call rules ties 2 100000000 100000000 100000000 9
    gives numbers (12500000 ∷ 12500000 ∷ 12500000 ∷ 37500000 ∷ 37500000 ∷ 37500000 ∷ 50000000 ∷ 50000000 ∷ 50000000 ∷ [])
    ∷ call rules alone 1 100000000 99999999 1 3 gives numbers (100000000 ∷ 99999999 ∷ 1 ∷ [])
    ∷ call rules alone 2 100000000 99999999 1 3 gives numbers (100000000 ∷ 99999999 ∷ 1 ∷ [])
    -- Nothing to divide.
    ∷ call rules (three 1) 1 0 0 0 9 gives numbers (0 ∷ 0 ∷ 0 ∷ 0 ∷ 0 ∷ 0 ∷ 0 ∷ 0 ∷ 0 ∷ [])
    ∷ call rules (three 1) 2 0 0 0 9 gives numbers (0 ∷ 0 ∷ 0 ∷ 0 ∷ 0 ∷ 0 ∷ 0 ∷ 0 ∷ 0 ∷ [])
    -- q 0 pays nothing, though first in the sheet: 3, 1 and 100 in halves for the others. By p it pays half: 1.5, 0.5 and 50, a quarter is 0.75, 0.25 and 25.
    ∷ call rules one_without 1 3 1 100 9 gives numbers (0 ∷ 0 ∷ 0 ∷ 2 ∷ 1 ∷ 50 ∷ 1 ∷ 0 ∷ 50 ∷ [])
    ∷ call rules one_without 2 3 1 100 9 gives numbers (1 ∷ 1 ∷ 50 ∷ 1 ∷ 0 ∷ 25 ∷ 1 ∷ 0 ∷ 25 ∷ [])
    -- 2S needs no q.
    ∷ call rules loadless 2 10 5 0 6 gives numbers (4 ∷ 2 ∷ 0 ∷ 6 ∷ 3 ∷ 0 ∷ [])
    -- Sheets that can't be settled: all units pay, read or not.
    ∷ map (λ bytes. call rules bytes 1 3 30 300 6 gives numbers (2 ∷ 20 ∷ 200 ∷ 1 ∷ 10 ∷ 100 ∷ [])) unsettled
    ++ map (λ bytes. call rules bytes 2 3 30 300 6 gives numbers (1 ∷ 10 ∷ 100 ∷ 2 ∷ 20 ∷ 200 ∷ [])) unsettled

-- Refused, with a list that keeps its sevens; of several faults the first in the call's order decides.
refused_cases : RuleSet → List Case
refused_cases rules =
    -- The sheet's own 1 to 7, each before an amount over its limit: no bytes, mark, version, month 13 at byte 6, a byte too many; in the second row KF 1,001, a status of model 3, the id.
    call rules [] 1 100000001 0 0 3 gives keeps TooShort 0 3
    ∷ call rules (put 0 0 good) 1 100000001 0 0 6 gives keeps BadMagic 0 6
    ∷ call rules (put 4 2 good) 1 100000001 0 0 6 gives keeps UnsupportedVersion 0 6
    ∷ call rules (put 6 13 good) 1 100000001 0 0 6 gives keeps (HeaderField 6) 6 6
    ∷ call rules (good ++ 0 ∷ []) 1 100000001 0 0 6 gives keeps WrongLength 0 6
    ∷ call rules (put 86 233 good) 1 100000001 0 0 6 gives keeps (RowField 1) 1 6
    ∷ call rules (put 84 1 good) 1 100000001 0 0 6 gives keeps (FieldConflict 1) 1 6
    ∷ call rules order 1 100000001 0 0 6 gives keeps (IdOrder 1) 1 6
    -- 4 and 7 alone; 7 before a wrong model and a wrong list.
    ∷ call rules (put 6 13 good) 1 1 1 1 6 gives keeps (HeaderField 6) 6 6
    ∷ call rules order 2 1 1 1 6 gives keeps (IdOrder 1) 1 6
    ∷ call rules order 3 1 1 1 5 gives keeps (IdOrder 1) 1 5
    -- 4 of the call, place 0: an amount one cent over its limit; a model other than 1 and 2 (the low byte of 257 is 1).
    ∷ call rules good 1 100000001 1 1 6 gives keeps (HeaderField 0) 0 6
    ∷ call rules good 1 1 100000001 1 6 gives keeps (HeaderField 0) 0 6
    ∷ call rules good 2 1 1 100000001 6 gives keeps (HeaderField 0) 0 6
    ∷ call rules good 0 1 1 1 6 gives keeps (HeaderField 0) 0 6
    ∷ call rules good 3 1 1 1 6 gives keeps (HeaderField 0) 0 6
    ∷ call rules good 257 1 1 1 6 gives keeps (HeaderField 0) 0 6
    ∷ call rules good 4294967295 1 1 1 6 gives keeps (HeaderField 0) 0 6
    -- 9: 1S with all q zero, also where nothing is to be divided.
    ∷ call rules loadless 1 1 1 1 6 gives keeps ZeroDivisor 0 6
    ∷ call rules loadless 1 0 0 0 6 gives keeps ZeroDivisor 0 6
    -- 13: 3n − 1, 3n + 1, the statement's 8n and no numbers; so too where the sheet can't be settled.
    ∷ call rules good 1 1 1 1 5 gives keeps BufferLength 0 5
    ∷ call rules good 2 1 1 1 7 gives keeps BufferLength 0 7
    ∷ call rules good 1 1 1 1 16 gives keeps BufferLength 0 16
    ∷ call rules good 2 1 1 1 0 gives keeps BufferLength 0 0
    ∷ call rules loadless 2 1 1 1 5 gives keeps BufferLength 0 5
    ∷ call rules (watered 1001) 1 1 1 1 5 gives keeps BufferLength 0 5
    -- 4 before 9, by an amount and by the model; 4 before 13, by both; 9 before 13.
    ∷ call rules loadless 1 1 1 100000001 6 gives keeps (HeaderField 0) 0 6
    ∷ call rules loadless 3 1 1 1 6 gives keeps (HeaderField 0) 0 6
    ∷ call rules good 2 100000001 1 1 5 gives keeps (HeaderField 0) 0 5
    ∷ call rules good 3 1 1 1 5 gives keeps (HeaderField 0) 0 5
    ∷ call rules loadless 1 1 1 1 5 gives keeps ZeroDivisor 0 5
    ∷ call rules loadless 1 0 0 0 5 gives keeps ZeroDivisor 0 5
    ∷ []

cases : RuleSet → List Case
cases rules = accepted_cases rules ++ refused_cases rules

all-cases : (rules : RuleSet) → map given (cases rules) ≡ map expected (cases rules)
unfolding cases accepted_cases refused_cases unsettled simple three ties one_without alone loadless good sevens call numbers keeps unit_bytes joined sheet_bytes in_bytes
    shares_by any first_refusal unit_row rows sheet_of header_tests row_tests field_rules row_rules sheet_rules
    charge_weights columns by_unit fixed_charges over_limit no_load call_rules charge_answer charges_after
all-cases Archive1 = refl
all-cases Archive2 = refl
all-cases Archive3 = refl

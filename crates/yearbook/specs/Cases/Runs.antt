-- A computed run of the plain year book on small sheets, checked by hand. One table, one theorem.
use Rattle.std.specs.Prelude.{◌≡◌, refl, List, [], ◌∷◌, map, ℕ}
use Rattle.apportion.specs.Shares.{shares_by}
use Rattle.sheet.specs.Tests.{all, any}
use Rattle.sheet.specs.Refusals.{number_of, place_of, first_refusal}
use Rattle.sheet.specs.Layout.{in_bytes, unit_row, rows, sheet_of}
use Rattle.sheet.specs.Check.{header_tests, row_tests, field_rules, row_rules, sheet_rules}
use Rattle.sheet.specs.Chains.{replies}
use Rattle.sheet.specs.Cases.Samples.{put, zeros, unit_bytes, joined, sheet_bytes, heated}
use Rattle.month.specs.Weights.{all_metered, metered_sum, has_pool, total_area, unread_weight, unread_weights, pool_weight, reading_sum, read_area, read_surface, area_weight, surface_weight, read_weight, read_weights, units_of_class, litres_of_class1, persons_of_class2, water_weight}
use Rattle.month.specs.Steps.{split_by, in_unit_order, unit_by_unit, hot_water, space_heat, heat_parts, pool_shares, read_shares, heat, common_heat, water_parts, water, common_water, energies}
use Rattle.month.specs.Month.{hot_water_wh, space_heat_wh, zero_water_divisor, zero_divisor, month_rules, bill_cents, costs, four_and_four, statement_of, month_of, settle_rules, settled_sheet}
use Rattle.yearbook.specs.Calls.{Call, post, replace, withdraw, year, Reply, accepted, refused, totals}
use Rattle.yearbook.specs.PlainBook.{opened_plain, stands, sheets_of, now_holds, not_kept, brought, withdrawn, number_in, unit_sums, told, called}

-- ---- sheets in bytes
-- a unit of heated area p; a sheet without hot water at a price of 10,000
abbrev unit : (id p : ℕ) → List ℕ
unit id p = heated id 0 1000 p 0

abbrev sheet : (month model v f M : ℕ) → List (List ℕ) → List ℕ
sheet month model v f M units = sheet_bytes month model 0 v 0 0 f 0 M 10000 (zeros 6) units

-- model 2, a quarter and three quarters by p
unfoldable pub by_area : (month M : ℕ) → List ℕ
by_area month M = sheet month 2 0 0 M (unit 11 100 ∷ unit 12 300 ∷ [])

-- case F of document 01
unfoldable pub overcharged : (month : ℕ) → List ℕ
overcharged month = sheet month 3 30 31 1000 (heated 11 1 1000 500 0 ∷ heated 12 0 1000 1000 300 ∷ [])

-- model 4, r 310,000 and 90,000; by the newest rules limited to 300,000 and 120,000
unfoldable pub by_risers : (month M : ℕ) → List ℕ
by_risers month M = sheet month 4 30 30 M (unit_bytes 11 0 0 1000 100 10 0 100 0 0 ∷ unit_bytes 12 0 0 1000 300 30 0 0 0 0 ∷ [])

-- another n, another id
unfoldable pub one_unit : List ℕ
one_unit = sheet 2 2 0 0 1000 (unit 11 100 ∷ [])

unfoldable pub other_id : List ℕ
other_id = sheet 1 2 0 0 1000 (unit 11 100 ∷ unit 13 300 ∷ [])

-- ---- a run: calls, and the answers expected
pub data Answer : Type 0 where
  accepts : Answer
  refuses : (number place : ℕ) → Answer
  gives : (k : ℕ) (sums : List ℕ) → Answer

abbrev pub answer_of : Reply → Answer
answer_of accepted = accepts
answer_of (refused r) = refuses (number_of r) (place_of r)
answer_of (totals k sums) = gives k sums

infix 70 ◌gets◌
pub data Line : Type 0 where
  ◌gets◌ : Call → Answer → Line

abbrev pub call_of : Line → Call
call_of (c gets a) = c

abbrev pub expected : Line → Answer
expected (c gets a) = a

-- The opening sheet passes 1 to 7 and doesn't settle.
-- Of M 1,000 the units get 250 and 750, and of ten cents 2.5 and 7.5 are due: the larger gets the half. Of M 50 they get 12 and 38, of 12.5 and 37.5, and the second the cent.
-- By risers they get 3,000 and 1,200 of 4,200 Wh, 30 and 12 of 42 cents.
unfoldable pub run : List Line
run =
    year 0 gets gives 0 (0 ∷ 0 ∷ 0 ∷ 0 ∷ 0 ∷ 0 ∷ 0 ∷ 0 ∷ [])
    ∷ replace (by_area 1 1000) gets refuses 17 0
    ∷ post (by_area 1 1000) gets accepts
    ∷ post (by_area 1 2000) gets refuses 17 0
    ∷ year 0 gets gives 1 (250 ∷ 0 ∷ 0 ∷ 0 ∷ 2 ∷ 0 ∷ 0 ∷ 0 ∷ [])
    ∷ post (by_area 12 50) gets accepts
    ∷ replace (by_area 1 2000) gets accepts
    ∷ year 1 gets gives 2 (1538 ∷ 0 ∷ 0 ∷ 0 ∷ 16 ∷ 0 ∷ 0 ∷ 0 ∷ [])
    ∷ post (by_risers 3 4200) gets accepts
    ∷ year 0 gets gives 3 (3512 ∷ 0 ∷ 0 ∷ 0 ∷ 35 ∷ 0 ∷ 0 ∷ 0 ∷ [])
    ∷ withdraw 3 gets accepts
    ∷ post [] gets refuses 1 0
    ∷ post (by_area 13 1000) gets refuses 4 6
    ∷ post (put 84 1 (by_area 1 1000)) gets refuses 20 1  -- status 1 in model 2; 20 before 17
    ∷ post (overcharged 2) gets refuses 12 0
    ∷ post one_unit gets refuses 16 0
    ∷ replace other_id gets refuses 16 0
    ∷ post other_id gets refuses 16 0  -- 16 before 17
    ∷ post (sheet 1 2 0 0 1000 (unit 12 100 ∷ unit 11 300 ∷ [])) gets refuses 7 1
    ∷ withdraw 1 gets accepts
    ∷ withdraw 1 gets refuses 17 0
    ∷ withdraw 0 gets refuses 17 0
    ∷ withdraw 13 gets refuses 17 0
    ∷ year 0 gets gives 1 (12 ∷ 0 ∷ 0 ∷ 0 ∷ 0 ∷ 0 ∷ 0 ∷ 0 ∷ [])
    ∷ post (by_area 1 1000) gets accepts
    ∷ year 2 gets refuses 18 0
    ∷ year 1 gets gives 2 (788 ∷ 0 ∷ 0 ∷ 0 ∷ 9 ∷ 0 ∷ 0 ∷ 0 ∷ [])
    ∷ []

pub run-right : map answer_of (replies called (opened_plain (overcharged 6)) (map call_of run)) ≡ map expected run
unfolding run by_area by_risers overcharged one_unit other_id unit_bytes joined sheet_bytes in_bytes
    opened_plain stands sheets_of now_holds not_kept brought withdrawn number_in unit_sums told called replies
    shares_by all any first_refusal unit_row rows sheet_of header_tests row_tests field_rules row_rules sheet_rules
    all_metered metered_sum has_pool total_area unread_weight unread_weights pool_weight reading_sum read_area read_surface area_weight surface_weight read_weight read_weights units_of_class litres_of_class1 persons_of_class2 water_weight
    split_by in_unit_order unit_by_unit hot_water space_heat heat_parts pool_shares read_shares heat common_heat water_parts water common_water energies
    hot_water_wh space_heat_wh zero_water_divisor zero_divisor month_rules bill_cents costs four_and_four statement_of month_of settle_rules settled_sheet
run-right = refl

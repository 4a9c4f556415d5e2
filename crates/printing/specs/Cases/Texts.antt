-- Computed cases: texts of whole sheets, of decimal numbers, and the largest numbers that can occur.
use Rattle.std.specs.Prelude.{◌≡◌, refl, List, [], ◌∷◌, ◌++◌, map, ℕ, take}
use Prim.Native.String.{String}
use Rattle.apportion.specs.Shares.{shares_by}
use Rattle.sheet.specs.declared.refusal.Refusal.TheVariants.{IdOrder}
use Rattle.sheet.specs.Tests.{all, any}
use Rattle.sheet.specs.Refusals.{first_refusal}
use Rattle.sheet.specs.Layout.{unit_row, rows, sheet_of, in_bytes}
use Rattle.sheet.specs.Check.{header_tests, row_tests, field_rules, row_rules, sheet_rules}
use Rattle.sheet.specs.Cases.Samples.{zeros, put, unit_bytes, joined, sheet_bytes, case_a}
use Rattle.month.specs.Weights.{all_metered, metered_sum, has_pool, total_area, unread_weight, unread_weights, pool_weight, reading_sum, read_area, read_surface, area_weight, surface_weight, read_weight, read_weights, units_of_class, litres_of_class1, persons_of_class2, water_weight}
use Rattle.month.specs.Steps.{split_by, in_unit_order, unit_by_unit, hot_water, space_heat, heat_parts, pool_shares, read_shares, heat, common_heat, water_parts, water, common_water, energies}
use Rattle.month.specs.Month.{hot_water_wh, space_heat_wh, zero_water_divisor, zero_divisor, month_rules, bill_cents, costs, four_and_four, statement_of, month_of, settle_rules, settled_sheet}
use Rattle.month.specs.Cases.Months.{risers, risers_c}
use Rattle.printing.specs.Text.{ascii, digits_up_to, decimal}
use Rattle.printing.specs.Printed.{first_line, unit_lines, refusal_line, printed, at_front}

-- ---- decimal numbers, up to the largest of 64 bits
decimals : map decimal (0 ∷ 9 ∷ 10 ∷ 99 ∷ 100 ∷ 1000000 ∷ 4294967295 ∷ 18446744073709551615 ∷ [])
    ≡ map ascii ("0" ∷ "9" ∷ "10" ∷ "99" ∷ "100" ∷ "1000000" ∷ "4294967295" ∷ "18446744073709551615" ∷ [])
unfolding decimal digits_up_to
decimals = refl

-- ---- whole sheets
-- month 12, model 2, M 4,000,000,000 at the highest price; one unit with the highest id has it all
abbrev largest : List ℕ
largest = sheet_bytes 12 2 0 0 0 0 0 0 4000000000 100000 (zeros 6) (unit_bytes 4294967295 0 0 1000 10000 0 0 0 0 0 ∷ [])

-- case A with more behind it than any sheet has
abbrev longer : List ℕ
longer = case_a ++ zeros 5100

infix 15 ◌prints◌
pub data Case : Type 0 where
  ◌prints◌ : List ℕ → List String → Case

abbrev given : Case → List ℕ
given (bytes prints lines) = printed bytes

abbrev expected : Case → List ℕ
expected (bytes prints lines) = joined (map ascii lines)

cases : List Case
cases =
    (case_a prints
    "month 1 units 3 wh 1000000 cents 10000\n"
    ∷ "11 116000 50000 0 0 1160 500 0 0\n"
    ∷ "12 228000 50000 0 0 2280 500 0 0\n"
    ∷ "13 456000 100000 0 0 4560 1000 0 0\n"
    ∷ [])
    -- C by risers: model 4 with limits, by the newest rules
    ∷ (risers_c 50 1000 prints
    "month 1 units 3 wh 1000000 cents 10000\n"
    ∷ "11 571429 50000 0 0 5714 500 0 0\n"
    ∷ "12 76190 50000 0 0 762 500 0 0\n"
    ∷ "13 152381 100000 0 0 1524 1000 0 0\n"
    ∷ [])
    ∷ ([] prints "refused 1 0\n" ∷ [])
    ∷ (put 6 13 case_a prints "refused 4 6\n" ∷ [])  -- month 13
    ∷ (put 116 5 case_a prints "refused 6 2\n" ∷ [])  -- status 5 in the third row
    ∷ (put 116 1 case_a prints "refused 20 2\n" ∷ [])  -- status 1 and a reading
    ∷ (put 116 1 (put 133 0 (put 132 0 case_a)) prints "refused 12 0\n" ∷ [])  -- the third unit without a device
    ∷ (longer prints "refused 5 0\n" ∷ [])
    ∷ (take 5169 longer prints "refused 5 0\n" ∷ [])
    ∷ (largest prints
    "month 12 units 1 wh 4000000000 cents 400000000\n"
    ∷ "4294967295 4000000000 0 0 0 400000000 0 0 0\n"
    ∷ [])
    ∷ []

all-cases : map given cases ≡ map expected cases
unfolding cases risers risers_c unit_bytes joined sheet_bytes in_bytes printed first_line unit_lines refusal_line decimal digits_up_to
    shares_by all any first_refusal unit_row rows sheet_of header_tests row_tests field_rules row_rules sheet_rules
    all_metered metered_sum has_pool total_area unread_weight unread_weights pool_weight reading_sum read_area read_surface area_weight surface_weight read_weight read_weights units_of_class litres_of_class1 persons_of_class2 water_weight
    split_by in_unit_order unit_by_unit hot_water space_heat heat_parts pool_shares read_shares heat common_heat water_parts water common_water energies
    hot_water_wh space_heat_wh zero_water_divisor zero_divisor month_rules bill_cents costs four_and_four statement_of month_of settle_rules settled_sheet
all-cases = refl

-- ---- the most units and the highest place
most-units : first_line (record { month = 12; unit_count = 160; ids = []; meter = 4000000000; bill = 400000000; numbers = [] })
    ≡ ascii "month 12 units 160 wh 4000000000 cents 400000000\n"
unfolding first_line decimal digits_up_to
most-units = refl

highest_place : refusal_line (IdOrder 159) ≡ ascii "refused 7 159\n"
unfolding refusal_line decimal digits_up_to
highest_place = refl

-- ---- lists as long as the text, longer and shorter
at_front_lem : map (at_front (1 ∷ 2 ∷ [])) ((7 ∷ 8 ∷ []) ∷ (7 ∷ 8 ∷ 9 ∷ []) ∷ (7 ∷ []) ∷ []) ≡ (1 ∷ 2 ∷ []) ∷ (1 ∷ 2 ∷ 9 ∷ []) ∷ (7 ∷ []) ∷ []
unfolding at_front
at_front_lem = refl

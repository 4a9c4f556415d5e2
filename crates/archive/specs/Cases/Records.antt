-- Computed cases, from the bytes on: the record of case A (document 01, "Cases for the proofs") of each archive version read, damaged, cut, lengthened and written, and
-- records that the archive versions settle differently (2026-01, 2026-06). One table, one theorem.
use Rattle.std.specs.Prelude.{◌≡◌, refl, List, [], ◌∷◌, ◌++◌, map, ℕ, take, drop, Ok, Err}
use Rattle.apportion.specs.Shares.{shares_by}
use Rattle.sheet.specs.Refusals.{Outcome, number_of, place_of, first_refusal}
use Rattle.sheet.specs.Tests.{all, any}
use Rattle.sheet.specs.Layout.{unit_row, rows, sheet_of, in_bytes}
use Rattle.sheet.specs.Check.{header_tests, row_tests, field_rules, row_rules, sheet_rules}
use Rattle.sheet.specs.Cases.Samples.{zeros, put, unit_bytes, joined, sheet_bytes, case_a}
use Rattle.month.specs.Weights.{all_metered, metered_sum, has_pool, total_area, unread_weight, unread_weights, pool_weight, reading_sum, read_area, read_surface, area_weight, surface_weight, read_weight, read_weights, units_of_class, litres_of_class1, persons_of_class2, water_weight}
use Rattle.month.specs.Steps.{split_by, in_unit_order, unit_by_unit, hot_water, space_heat, heat_parts, pool_shares, read_shares, heat, common_heat, water_parts, water, common_water, energies}
use Rattle.month.specs.Month.{hot_water_wh, space_heat_wh, zero_water_divisor, zero_divisor, month_rules, bill_cents, costs, four_and_four, statement_of, month_of, settle_rules, settled_sheet}
use Rattle.archive.specs.Record.{archive_record}
use Rattle.archive.specs.Reader.{head_among, body_rules, read_rules, read_outcome, start_of, count_of}
use Rattle.archive.specs.Writer.{write_answer, record_after}

-- ---- the record of case A, byte by byte
-- month 1, model 3, three units, v 30, z 20, f 30; M 1,000,000; price 10,000
abbrev header : List ℕ
header =
    (72 ∷ 67 ∷ 83 ∷ 0 ∷ 1 ∷ 0 ∷ 1 ∷ 3 ∷ 3 ∷ 0 ∷ 0 ∷ 30 ∷ 20 ∷ 0 ∷ 30 ∷ 0 ∷ 64 ∷ 66 ∷ 15 ∷ 0 ∷ 16 ∷ 39 ∷ 0 ∷ 0 ∷ [])
    ++ zeros 24

-- KF 1,000; p and b in two bytes each
abbrev unit : (id p₀ p₁ b₀ b₁ : ℕ) → List ℕ
unit id p₀ p₁ b₀ b₁ = (id ∷ 0 ∷ 0 ∷ 0 ∷ 0 ∷ 0 ∷ 232 ∷ 3 ∷ p₀ ∷ p₁ ∷ []) ++ (zeros 10 ++ ((b₀ ∷ b₁ ∷ []) ++ zeros 10))

-- 116,000, 50,000, 0, 0, 1,160, 500, 0, 0; 228,000, 50,000, 0, 0, 2,280, 500, 0, 0; 456,000, 100,000, 0, 0, 4,560, 1,000, 0, 0
unfoldable pub statement_a : List ℕ
statement_a =
    (32 ∷ 197 ∷ 1 ∷ 0 ∷ 80 ∷ 195 ∷ 0 ∷ 0 ∷ zeros 8)
    ++ ((136 ∷ 4 ∷ 0 ∷ 0 ∷ 244 ∷ 1 ∷ 0 ∷ 0 ∷ zeros 8)
    ++ ((160 ∷ 122 ∷ 3 ∷ 0 ∷ 80 ∷ 195 ∷ 0 ∷ 0 ∷ zeros 8)
    ++ ((232 ∷ 8 ∷ 0 ∷ 0 ∷ 244 ∷ 1 ∷ 0 ∷ 0 ∷ zeros 8)
    ++ ((64 ∷ 245 ∷ 6 ∷ 0 ∷ 160 ∷ 134 ∷ 1 ∷ 0 ∷ zeros 8)
    ++ (208 ∷ 17 ∷ 0 ∷ 0 ∷ 232 ∷ 3 ∷ 0 ∷ 0 ∷ zeros 8)))))

abbrev head : (archive : ℕ) → List ℕ
head archive = 72 ∷ 67 ∷ 65 ∷ 0 ∷ archive ∷ 0 ∷ 0 ∷ 0 ∷ []

unfoldable pub record_a : (archive : ℕ) → List ℕ
record_a archive = head archive ++ (header ++ (unit 11 244 1 100 0 ++ (unit 12 244 1 44 1 ++ (unit 13 232 3 88 2 ++ statement_a))))

-- ---- a month that each archive version settles differently
-- Model 4, v 30, z 20, M 30; p 100 and 300, s 50 and 150, b 1,000 and 0. Heat 24 Wh by r 15.5 and 4.5 millions, limited 15 and 6; common heat 6 Wh by p, 1.5 and 4.5.
tied_risers : List ℕ
tied_risers = sheet_bytes 1 4 0 30 20 0 30 0 30 100000 (zeros 6) (unit_bytes 11 0 0 1000 100 50 0 1000 0 0 ∷ unit_bytes 12 0 0 1000 300 150 0 0 0 0 ∷ [])

by_archive1 : List ℕ
by_archive1 = 19 ∷ 2 ∷ 0 ∷ 0 ∷ 2 ∷ 0 ∷ 0 ∷ 0 ∷ 5 ∷ 4 ∷ 0 ∷ 0 ∷ 1 ∷ 0 ∷ 0 ∷ 0 ∷ []

by_archive2 : List ℕ
by_archive2 = 17 ∷ 2 ∷ 0 ∷ 0 ∷ 2 ∷ 0 ∷ 0 ∷ 0 ∷ 7 ∷ 4 ∷ 0 ∷ 0 ∷ 1 ∷ 0 ∷ 0 ∷ 0 ∷ []

by_archive3 : List ℕ
by_archive3 = 17 ∷ 1 ∷ 0 ∷ 0 ∷ 2 ∷ 0 ∷ 0 ∷ 0 ∷ 7 ∷ 5 ∷ 0 ∷ 0 ∷ 1 ∷ 0 ∷ 0 ∷ 0 ∷ []

record_t : (archive : ℕ) → (numbers : List ℕ) → List ℕ
record_t archive numbers = head archive ++ (tied_risers ++ in_bytes numbers)

-- ---- answers: the bytes handed back or written, or number and place with the bytes left
pub data Answer : Type 0 where
  accepts : List ℕ → Answer
  refuses : (number place : ℕ) → List ℕ → Answer

abbrev answer : Outcome → List ℕ → Answer
answer (Ok tt) bytes = accepts bytes
answer (Err r) bytes = refuses (number_of r) (place_of r) bytes

reads : List ℕ → Answer
reads bytes = let o = read_outcome bytes in answer o (take (count_of o bytes) (drop (start_of o) bytes))

writes : (sheet list : List ℕ) → Answer
writes sheet list = answer (write_answer sheet list) (record_after sheet list)

-- ---- the table
infix 15 ◌gives◌
pub data Case : Type 0 where
  ◌gives◌ : Answer → Answer → Case

abbrev pub given : Case → Answer
given (x gives y) = x

abbrev pub expected : Case → Answer
expected (x gives y) = y

pub cases : List Case
cases =
    (reads (record_a 1) gives accepts case_a)
    ∷ (reads (record_a 2) gives accepts case_a)
    ∷ (reads (record_a 3) gives accepts case_a)
    -- 14: under 8 bytes; mark, versions 0, 4 and 257, last byte of the head
    ∷ (reads [] gives refuses 14 0 [])
    ∷ (reads (take 7 (record_a 1)) gives refuses 14 0 [])
    ∷ (reads (put 0 0 (record_a 1)) gives refuses 14 0 [])
    ∷ (reads (record_a 0) gives refuses 14 0 [])
    ∷ (reads (record_a 4) gives refuses 14 0 [])
    ∷ (reads (put 5 1 (record_a 1)) gives refuses 14 0 [])
    ∷ (reads (put 7 1 (record_a 1)) gives refuses 14 0 [])
    -- the sheet's, from byte 8: 1, 2, 4, 5, 6, 20, 12. The place of 4 is counted from there: v, two faults, v without its model, h6
    ∷ (reads (take 8 (record_a 1)) gives refuses 1 0 [])
    ∷ (reads (put 8 0 (record_a 1)) gives refuses 2 0 [])
    ∷ (reads (put 19 31 (record_a 1)) gives refuses 4 11 [])
    ∷ (reads (put 14 13 (put 18 4 (record_a 1))) gives refuses 4 6 [])
    ∷ (reads (put 15 2 (record_a 2)) gives refuses 4 11 [])
    ∷ (reads (put 52 1 (record_a 2)) gives refuses 4 44 [])
    ∷ (reads (put 52 1 (record_a 3)) gives refuses 4 44 [])
    ∷ (reads (take 247 (record_a 1)) gives refuses 5 0 [])
    ∷ (reads (record_a 1 ++ zeros 1) gives refuses 5 0 [])
    ∷ (reads (put 124 5 (record_a 1)) gives refuses 6 2 [])
    ∷ (reads (put 124 1 (record_a 1)) gives refuses 20 2 [])
    ∷ (reads (put 61 1 (put 63 9 (record_a 2))) gives refuses 20 0 [])
    ∷ (reads (put 124 1 (put 141 0 (put 140 0 (record_a 1)))) gives refuses 12 0 [])
    -- 14: b of the first unit, and the statement's first, middle and last byte
    ∷ (reads (put 76 101 (record_a 1)) gives refuses 14 0 [])
    ∷ (reads (put 152 33 (record_a 1)) gives refuses 14 0 [])
    ∷ (reads (put 200 137 (record_a 1)) gives refuses 14 0 [])
    ∷ (reads (put 247 1 (record_a 1)) gives refuses 14 0 [])
    -- each version by its own rules: the numbers of another are 14
    ∷ (reads (record_t 1 by_archive1) gives accepts tied_risers)
    ∷ (reads (record_t 1 by_archive2) gives refuses 14 0 [])
    ∷ (reads (record_t 1 by_archive3) gives refuses 14 0 [])
    ∷ (reads (record_t 2 by_archive1) gives refuses 14 0 [])
    ∷ (reads (record_t 2 by_archive2) gives accepts tied_risers)
    ∷ (reads (record_t 2 by_archive3) gives refuses 14 0 [])
    ∷ (reads (record_t 3 by_archive1) gives refuses 14 0 [])
    ∷ (reads (record_t 3 by_archive2) gives refuses 14 0 [])
    ∷ (reads (record_t 3 by_archive3) gives accepts tied_risers)
    -- written; 13 on a list of another length; 5, 4 and 20 before 13
    ∷ (writes case_a (zeros 248) gives accepts (record_a 3))
    ∷ (writes tied_risers (zeros 184) gives accepts (record_t 3 by_archive3))
    ∷ (writes case_a (7 ∷ zeros 246) gives refuses 13 0 (7 ∷ zeros 246))
    ∷ (writes (take 143 case_a) (7 ∷ []) gives refuses 5 0 (7 ∷ []))
    ∷ (writes (put 14 36 case_a) (7 ∷ []) gives refuses 4 14 (7 ∷ []))
    ∷ (writes (put 84 1 case_a) (7 ∷ []) gives refuses 20 1 (7 ∷ []))
    ∷ []

pub all-cases : map given cases ≡ map expected cases
unfolding cases statement_a record_a tied_risers by_archive1 by_archive2 by_archive3 record_t reads writes
    unit_bytes joined sheet_bytes in_bytes archive_record head_among body_rules read_rules read_outcome write_answer record_after
    shares_by all any first_refusal unit_row rows sheet_of header_tests row_tests field_rules row_rules sheet_rules
    all_metered metered_sum has_pool total_area unread_weight unread_weights pool_weight reading_sum read_area read_surface area_weight surface_weight read_weight read_weights units_of_class litres_of_class1 persons_of_class2 water_weight
    split_by in_unit_order unit_by_unit hot_water space_heat heat_parts pool_shares read_shares heat common_heat water_parts water common_water energies
    hot_water_wh space_heat_wh zero_water_divisor zero_divisor month_rules bill_cents costs four_and_four statement_of month_of settle_rules settled_sheet
all-cases = refl

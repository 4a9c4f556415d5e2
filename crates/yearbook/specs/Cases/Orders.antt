-- Computed cases of the order of refusals where a book, its sums and a sheet are lent: open 15, 1 to 7 with 20, 19; post and replace 15, 1 to 12 with 20, 16, 17, 19. One table, one theorem.
use Rattle.std.specs.Prelude.{◌≡◌, refl, List, [], ◌∷◌, ◌++◌, map, ℕ, Err}
use Rattle.sheet.specs.Refusals.{Outcome, first_refusal}
use Rattle.sheet.specs.declared.refusal.Refusal.TheVariants.{HeaderField, FieldConflict, UnmeteredExceedsHeat, BadYearBook, OtherBuilding, MonthState, BadYearSums}
use Rattle.sheet.specs.Tests.{all, any}
use Rattle.sheet.specs.Layout.{in_bytes, unit_row, rows, sheet_of}
use Rattle.sheet.specs.Check.{header_tests, row_tests, field_rules, row_rules, sheet_rules}
use Rattle.sheet.specs.Cases.Samples.{put, zeros, unit_bytes, joined, sheet_bytes}
use Rattle.month.specs.Weights.{all_metered, has_pool, total_area, unread_weight, unread_weights, read_surface}
use Rattle.month.specs.Month.{hot_water_wh, zero_water_divisor, zero_divisor, month_rules, settle_rules}
use Rattle.month.specs.Steps.{hot_water}
use Rattle.year_sums.specs.YearSums.{bad_sums}
use Rattle.yearbook.specs.LentBook.{lent, bad_book, other_building, sheet_call_rules, open_answer, post_answer, replace_answer}
use Rattle.yearbook.specs.Cases.Runs.{by_area, overcharged}

-- ---- sheets of month 1 with two units, 11 and 12
abbrev good : List ℕ
good = by_area 1 1000

-- model 2 and a status of 1 in the second row
abbrev clash : List ℕ
clash = put 84 1 good

-- y 1 without hot water
abbrev header : List ℕ
header = put 13 1 good

-- 12
abbrev over : List ℕ
over = overcharged 1

-- ---- books: never opened, and of these units, where month 1 has the mark
abbrev empty : List ℕ
empty = zeros 15557

abbrev book : (mark : ℕ) → List ℕ
book mark = 2 ∷ mark ∷ zeros 35 ++ 11 ∷ 12 ∷ zeros 15518

-- ---- the table: with no sums at all, so that 19 always holds too
infix 15 ◌gives◌
record Case : Type 0 where
  answer : Outcome
  expected : Outcome

abbrev ◌gives◌ : Outcome → Outcome → Case
a gives e = record { answer = a; expected = e }

abbrev opens : (book sheet : List ℕ) → Outcome
opens book sheet = open_answer (lent book []) sheet

abbrev posts : (book sheet : List ℕ) → Outcome
posts book sheet = post_answer (lent book []) sheet

abbrev replaces : (book sheet : List ℕ) → Outcome
replaces book sheet = replace_answer (lent book []) sheet

cases : List Case
cases =
    (opens [] clash gives Err BadYearBook)
    ∷ (opens empty clash gives Err (FieldConflict 1))
    ∷ (opens empty header gives Err (HeaderField 13))
    ∷ (opens empty over gives Err BadYearSums)
    ∷ (posts (161 ∷ zeros 15556) clash gives Err BadYearBook)
    ∷ (posts empty clash gives Err (FieldConflict 1))
    ∷ (posts empty header gives Err (HeaderField 13))
    ∷ (posts empty over gives Err UnmeteredExceedsHeat)
    ∷ (posts empty good gives Err OtherBuilding)
    ∷ (posts (book 1) clash gives Err (FieldConflict 1))
    ∷ (posts (book 1) over gives Err UnmeteredExceedsHeat)
    ∷ (posts (book 1) good gives Err MonthState)
    ∷ (posts (book 0) good gives Err BadYearSums)
    ∷ (replaces (book 2) clash gives Err BadYearBook)
    ∷ (replaces (book 0) clash gives Err (FieldConflict 1))
    ∷ (replaces (book 0) header gives Err (HeaderField 13))
    ∷ (replaces (book 0) over gives Err UnmeteredExceedsHeat)
    ∷ (replaces (book 0) good gives Err MonthState)
    ∷ (replaces (book 1) good gives Err BadYearSums)
    ∷ []

all-cases : map (λ (c : Case). c.answer) cases ≡ map (λ (c : Case). c.expected) cases
unfolding cases by_area overcharged unit_bytes joined sheet_bytes in_bytes open_answer post_answer replace_answer sheet_call_rules bad_book other_building bad_sums
    all any first_refusal unit_row rows sheet_of header_tests row_tests field_rules row_rules sheet_rules
    all_metered has_pool total_area unread_weight unread_weights read_surface
    hot_water hot_water_wh zero_water_divisor zero_divisor month_rules settle_rules
all-cases = refl

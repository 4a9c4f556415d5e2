-- Computed cases of an answer as one number, and of the order of the year call's refusals.
use Rattle.std.specs.Prelude.{◌≡◌, refl, List, [], ◌∷◌, map, ℕ, replicate, Ok, Err}
use Rattle.sheet.specs.declared.refusal.Refusal.{Refusal}
use Rattle.sheet.specs.declared.refusal.Refusal.TheVariants.{TooShort, BadMagic, UnsupportedVersion, HeaderField, WrongLength, RowField, IdOrder}
use Rattle.sheet.specs.declared.refusal.Refusal.TheVariants.{HotWaterExceedsMeter, ZeroDivisor, NoReadings, MetersExceedHeat, UnmeteredExceedsHeat}
use Rattle.sheet.specs.declared.refusal.Refusal.TheVariants.{BufferLength, BadArchive, BadYearBook, OtherBuilding, MonthState, NoSuchUnit, BadYearSums, FieldConflict}
use Rattle.sheet.specs.Tests.{any}
use Rattle.sheet.specs.Refusals.{first_refusal}
use Rattle.yearbook.specs.LentBook.{Lent, lent, bad_book, year_rules}
use Rattle.heatcost.specs.Answer.{answer_number}
use Rattle.heatcost.specs.Year.{year_list_answer}

-- the refusals from 1 to 20, those with a place at place 0
refusals : List Refusal
refusals =
    TooShort ∷ BadMagic ∷ UnsupportedVersion ∷ HeaderField 0 ∷ WrongLength ∷ RowField 0 ∷ IdOrder 0
    ∷ HotWaterExceedsMeter ∷ ZeroDivisor ∷ NoReadings ∷ MetersExceedHeat ∷ UnmeteredExceedsHeat
    ∷ BufferLength ∷ BadArchive ∷ BadYearBook ∷ OtherBuilding ∷ MonthState ∷ NoSuchUnit ∷ BadYearSums ∷ FieldConflict 0
    ∷ []

numbers : map answer_number (Ok tt ∷ map Err refusals)
    ≡ 0 ∷ 1 ∷ 2 ∷ 3 ∷ 4 ∷ 5 ∷ 6 ∷ 7 ∷ 8 ∷ 9 ∷ 10 ∷ 11 ∷ 12 ∷ 13 ∷ 14 ∷ 15 ∷ 16 ∷ 17 ∷ 18 ∷ 19 ∷ 20 ∷ []
unfolding refusals
numbers = refl

-- 4 + 256 × 44, 6 + 256 × 2, 7 + 256 × 159, 20 + 256 × 3
places : map answer_number (Err (HeaderField 44) ∷ Err (RowField 2) ∷ Err (IdOrder 159) ∷ Err (FieldConflict 3) ∷ []) ≡ 11268 ∷ 518 ∷ 40711 ∷ 788 ∷ []
places = refl

-- ---- the year call on a book of n units and nothing else, with some sums: 15, then 13, then 18, then 19
abbrev list : (count : ℕ) → List ℕ
list count = replicate count 0

abbrev book : (n sums : ℕ) → Lent
book n sums = lent (n ∷ list 15556) (list sums)

year-list : map (λ l. year_list_answer l 1 (list 8)) (lent [] [] ∷ book 161 0 ∷ book 1 0 ∷ book 2 0 ∷ [])
    ≡ Err BadYearBook ∷ Err BadYearBook ∷ Err BufferLength ∷ Err BufferLength ∷ []
unfolding year_list_answer year_rules bad_book any first_refusal
year-list = refl

year-place : map (λ l. year_list_answer l 1 (list 9)) (book 161 0 ∷ book 1 0 ∷ book 1 1280 ∷ book 2 1279 ∷ book 2 1280 ∷ book 2 1281 ∷ [])
    ≡ Err BadYearBook ∷ Err NoSuchUnit ∷ Err NoSuchUnit ∷ Err BadYearSums ∷ Ok tt ∷ Err BadYearSums ∷ []
unfolding year_list_answer year_rules bad_book any first_refusal
year-place = refl

year-count : map (λ count. year_list_answer (book 1 1280) 0 (list count)) (8 ∷ 9 ∷ 10 ∷ []) ≡ Err BufferLength ∷ Ok tt ∷ Err BufferLength ∷ []
unfolding year_list_answer year_rules bad_book any first_refusal
year-count = refl

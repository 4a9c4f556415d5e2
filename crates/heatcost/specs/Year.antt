-- The year call with a lent list of 9 numbers, k and the eight sums: 15, then 13 for a list of another length, then 18 and 19.
use Rattle.std.specs.Prelude.{not, List, ◌∷◌, ℕ, eqb, length}
use Rattle.sheet.specs.declared.refusal.Refusal.TheVariants.{BadYearBook, BufferLength}
use Rattle.sheet.specs.Refusals.{Outcome, ◌⇒◌, first_refusal, afterwards}
use Rattle.yearbook.specs.LentBook.{Lent, bad_book, year_rules, marks_in, sums_at}

-- 15 comes first in book calls; of 13, 18 and 19 the lowest number
unfoldable pub year_list_answer : Lent → (place : ℕ) (list : List ℕ) → Outcome
year_list_answer l place list =
    first_refusal ((bad_book l.book ⇒ BadYearBook) ∷ (not (eqb (length list) 9) ⇒ BufferLength) ∷ year_rules l place)

-- a refused call leaves the list as it was
unfoldable pub year_list_after : Lent → (place : ℕ) (list : List ℕ) → List ℕ
year_list_after l place list = afterwards (year_list_answer l place list) list (marks_in l.book ∷ sums_at l.sums place)

-- The year call with a lent list: what is written, of another length, refused, and accepted. Assumes nothing.
use mathlib.Core.Path.{◌≡◌, refl, sym, ap, ◌∙◌}
use mathlib.Core.Logic.{inl, inr}
use mathlib.Core.Bool.{true, false}
use mathlib.Core.List.{List, [], ◌∷◌, ◌++◌, append-nil}
use Prim.Native.Nat.{ℕ, ◌+◌, ◌-◌, ◌<◌}
use native.Mathlib.Omega.{arith}
use borrow.Rule.Slice.PartMut.{put_mid}
use borrow.Author.Tests.{eq-eqb, ne_eqb}
use lib.ListN.{length, set, drop_of_length-le}
use Rattle.std.specs.Prelude.{Result, Ok, Err}
use Rattle.sheet.specs.declared.refusal.Refusal.{Refusal}
use Rattle.sheet.specs.declared.refusal.Refusal.TheVariants.{BadYearBook, BufferLength}
use Rattle.sheet.specs.Refusals.{Outcome, first_refusal, outcome_of, place_of}
use Rattle.sheet.specs.Inner.Places.{PlaceBelow}
use Rattle.sheet.proofs.Places.{each_first}
use Rattle.month.proofs.Lists.{decided}
use Rattle.yearbook.specs.declared.totals.YearTotals.{YearTotals}
use Rattle.yearbook.specs.LentBook.{Lent, bad_book, year_rules, year_outcome, marks_in, sums_at, totals_by}
use Rattle.heatcost.specs.Year.{year_list_answer, year_list_after}

-- a number at the front of a list, then others over the rest of it
pub front_and_rest : (k : ℕ) (rest list : List ℕ) → length list ≡ 1 + length rest → put_mid 1 (length (set list 0 k) - 1) (set list 0 k) rest ≡ k ∷ rest
front_and_rest k rest [] h = absurd (omega arith)
front_and_rest k rest (x ∷ xs) h =
    ap (λ (l : List ℕ). k ∷ (rest ++ l)) (drop_of_length-le xs (omega arith)) ∙ ap (λ (l : List ℕ). k ∷ l) (append-nil rest)

told : (o : Outcome) (k : ℕ) (sums : List ℕ) → outcome_of (totals_by o k sums) ≡ o
told (Ok tt) k sums = refl
told (Err r) k sums = refl

written : (o : Outcome) (k : ℕ) (sums : List ℕ) (t : YearTotals) → totals_by o k sums ≡ Ok t → t.k ∷ t.sums ≡ k ∷ sums
written (Ok tt) k sums t e = cc
written (Err r) k sums t e = absurd cc

-- of a list of 9 numbers
module _ (l : Lent) (place : ℕ) (list : List ℕ) (right : length list ≡ 9) (t : Result YearTotals Refusal) (whole : t ≡ totals_by (year_outcome l place) (marks_in l.book) (sums_at l.sums place)) where
  same_answer : outcome_of t ≡ year_list_answer l place list
  unfolding year_list_answer year_outcome year_rules first_refusal
  same_answer =
      ap (λ (x : Result YearTotals Refusal). outcome_of x) whole ∙ told (year_outcome l place) (marks_in l.book) (sums_at l.sums place)
      ∙ elim (decided (bad_book l.book)) [ inl e ↦ rw e refl | inr e ↦ rw (e, eq-eqb (length list) 9 right) refl ]

  pub refused-list : (r : Refusal) → t ≡ Err r → (Err r ≡ year_list_answer l place list) × (list ≡ year_list_after l place list)
  unfolding year_list_after
  refused-list r e =
      let f : Err r ≡ year_list_answer l place list = ap (λ (x : Result YearTotals Refusal). outcome_of x) (sym e) ∙ same_answer in
      (f, rw (sym f) refl)

  pub written-list : (y : YearTotals) → t ≡ Ok y → (Ok tt ≡ year_list_answer l place list) × (y.k ∷ y.sums ≡ year_list_after l place list)
  unfolding year_list_after
  written-list y e =
      let f : Ok tt ≡ year_list_answer l place list = ap (λ (x : Result YearTotals Refusal). outcome_of x) (sym e) ∙ same_answer in
      (f, rw (sym f) (written (year_outcome l place) (marks_in l.book) (sums_at l.sums place) y (sym whole ∙ e)))

-- of another length: 15, then 13
module _ (l : Lent) (place : ℕ) (list : List ℕ) where
  pub bad_book_lem : bad_book l.book ≡ true → (Err BadYearBook ≡ year_list_answer l place list) × (list ≡ year_list_after l place list)
  unfolding year_list_answer year_list_after first_refusal
  bad_book_lem e = rw e (refl, refl)

  pub wrong_list : bad_book l.book ≡ false → (length list ≡ 9 → ⊥) → (Err BufferLength ≡ year_list_answer l place list) × (list ≡ year_list_after l place list)
  unfolding year_list_answer year_list_after first_refusal
  wrong_list e h = rw (e, ne_eqb (length list) 9 h) (refl, refl)

  pub list_place : PlaceBelow 160 (year_list_answer l place list)
  unfolding year_list_answer year_rules
  list_place = each_first (λ r. place_of r < 160) _ (omega arith, (omega arith, (omega arith, (omega arith, (omega arith, tt)))))

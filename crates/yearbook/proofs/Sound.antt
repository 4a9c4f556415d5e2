-- Refusal 15 and its plain facts, and k. Assumes nothing.
use mathlib.Core.Path.{◌≡◌, refl, sym, ap, ◌∙◌}
use mathlib.Core.Bool.{Bool, true, false, not, ◌||◌}
use mathlib.Core.List.{List, [], ◌∷◌, map}
use Prim.Native.Nat.{ℕ, ◌≤◌, ◌<◌}
use native.Mathlib.Omega.{arith}
use lib.Dec.{ltb, eqb}
use borrow.Author.Tests.{lt-ltb, le-ltb, ltb-false, eq-eqb, ne_eqb, eqb-true, not-false}
use lib.ListN.{length, get_or, take, drop, length-take, length-drop, length-map, get_or-map}
use lib.Seq.{get_or-take, get_or-drop}
use Rattle.std.specs.Prelude.{if◌then◌else◌}
use Rattle.std.specs.List.{list_any, sum_by}
use Rattle.std.proofs.lemmas.List.Recursion.{is_sum_by}
use Rattle.std.proofs.lemmas.List.Sums.{sum_by-le-sum_by}
use Rattle.sheet.specs.Tests.{any}
use Rattle.month.specs.Laws.{sum_to}
use Rattle.month.proofs.Lists.{sum_to-front, sum_to_cong}
use Rattle.yearbook.specs.LentBook.{book_length, unit_count_in, mark_at, if_marked, marks_in, bad_book}
use Rattle.yearbook.specs.Inner.Sound.{Sound}
use Rattle.year_sums.proofs.Lists.{neither, no_test, not-any}

any_is : (p : ℕ → Bool) (xs : List ℕ) → list_any p xs ≡ any (map p xs)
unfolding any
any_is p [] = refl
any_is p (x ∷ xs) = ap (λ t. p x || t) (any_is p xs)

-- k, added mark by mark
count_is : (xs : List ℕ) → sum_by (λ x. if_marked x 1) xs ≡ sum_to (length xs) (λ i. if_marked (get_or xs i 0) 1)
unfolding sum_to
count_is xs =
    sym (is_sum_by (λ xs. sum_to (length xs) (λ i. if_marked (get_or xs i 0) 1)) (λ x. if_marked x 1) refl (λ x xs. sum_to-front (length xs) (λ i. if_marked (get_or (x ∷ xs) i 0) 1)) xs)

count-le : (xs : List ℕ) → sum_by (λ x. if_marked x 1) xs ≤ length xs
count-le xs = omega (arith, sum_by-le-sum_by (λ x. if_marked x 1) (λ x. 1) xs (λ x. one (eqb x 1)), is_sum_by length (λ x. 1) refl (λ x xs. omega arith) xs)
  where
    one : (t : Bool) → (if t then 1 else 0) ≤ 1
    one true = omega arith
    one false = omega arith

module _ (b : List ℕ) where
  -- the marks one by one
  marks : List ℕ
  marks = take 12 (drop 1 b)

  mark_at_lem : (i : ℕ) → i < 12 → get_or marks i 0 ≡ get_or b (mark_at i) 0
  unfolding marks
  mark_at_lem i h = get_or-take 12 (drop 1 b) i 0 h ∙ get_or-drop 1 b i 0

  pub marks_counted : length b ≡ book_length → sum_by (λ x. if_marked x 1) (take 12 (drop 1 b)) ≡ marks_in b
  unfolding marks_in marks
  marks_counted size =
      let twelve : length (take 12 (drop 1 b)) ≡ 12 = simp (length-take, length-drop) (omega arith) in
      count_is (take 12 (drop 1 b)) ∙ rw twelve (sum_to_cong 12 _ _ (λ i h. ap (λ (x : ℕ). if_marked x 1) (mark_at_lem i h)))

  pub marks-le : sum_by (λ x. if_marked x 1) (take 12 (drop 1 b)) ≤ 12
  marks-le = omega (arith, count-le (take 12 (drop 1 b)), length-take 12 (drop 1 b))

  -- ---- 15, test by test
  pub bad-length : (length b ≡ book_length → ⊥) → bad_book b ≡ true
  unfolding bad_book
  bad-length h = rw (ne_eqb (length b) book_length h)

  pub bad-units : length b ≡ book_length → 160 < unit_count_in b → bad_book b ≡ true
  unfolding bad_book
  bad-units e h = rw (eq-eqb (length b) book_length e, lt-ltb 160 (unit_count_in b) h)

  -- the first two tests don't hold
  pub by-marks : length b ≡ book_length → unit_count_in b ≤ 160 → bad_book b ≡ list_any (ltb 1) (take 12 (drop 1 b))
  unfolding bad_book
  by-marks e h = rw (eq-eqb (length b) book_length e, le-ltb 160 (unit_count_in b) h) (sym (any_is (ltb 1) (take 12 (drop 1 b))))

  -- ---- not 15
  pub sound-book : Sound b → bad_book b ≡ false
  unfolding bad_book marks
  sound-book s =
      let few : length marks ≤ 12 = omega (arith, length-take 12 (drop 1 b)) in
      rw (eq-eqb (length b) book_length s.size, le-ltb 160 (unit_count_in b) s.few-units)
      (no_test (map (ltb 1) marks) (λ i h.
      let l : i < 12 = omega (arith, length-map marks (ltb 1)) in
      get_or-map (ltb 1) marks i 0 ∙ le-ltb 1 (get_or marks i 0) (omega (arith, mark_at_lem i l, s.marks i l))))

  pub book-sound : bad_book b ≡ false → Sound b
  unfolding bad_book marks
  book-sound e =
      let p = neither (not (eqb (length b) book_length) || ltb 160 (unit_count_in b)) _ e in
      let q = neither (not (eqb (length b) book_length)) _ p.0 in
      record {
        size = eqb-true (length b) book_length (not-false (eqb (length b) book_length) q.0);
        few-units = ltb-false 160 (unit_count_in b) q.1;
        marks = λ i h. omega (arith, mark_at_lem i h, ltb-false 1 (get_or marks i 0) (sym (get_or-map (ltb 1) marks i 0) ∙ not-any (map (ltb 1) marks) p.1 i));
      }

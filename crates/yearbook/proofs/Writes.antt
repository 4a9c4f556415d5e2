-- What the writes of the year book leave, number by number. Assumes nothing.
use mathlib.Core.Path.{◌≡◌, sym, ◌∙◌}
use mathlib.Core.Logic.{◌≢◌, ◌⊎◌, inl, inr}
use mathlib.Core.List.{List, map}
use Prim.Native.Nat.{ℕ, ◌+◌, ◌*◌, ◌≤◌, ◌<◌}
use native.Mathlib.Omega.{arith}
use native.Mathlib.Decide.{dec_lt}
use lib.ListN.{length, get_or, set, length-set, length-replicate, length-append, get_or-eq_default}
use lib.Seq.{get_or-set_same, get_or-set_other, length-sets}
use Rattle.sheet.specs.Layout.{sheet_of}
use Rattle.sheet.proofs.Units.{ids-count}
use Rattle.yearbook.specs.LentBook.{book_length, ids_at, block_length, unit_count_in, mark_at, meter_at, bill_at, block_at, padded, put_month, zero_book, fresh_book}
use Rattle.year_sums.proofs.Lists.{zero-at}
use Rattle.yearbook.proofs.Stores.{get_d_sets_below, get_d_sets_above, get_d_sets_in}

-- ---- a month: its mark, M, bill and block
pub put-length : (b : List ℕ) (i mark meter bill : ℕ) (block : List ℕ) → length (put_month b i mark meter bill block) ≡ length b
unfolding put_month
put-length b i mark meter bill block = simp (length-sets, length-set)

pub padded-length : (n : ℕ) (numbers : List ℕ) → n ≤ 160 → length numbers ≡ 8 * n → length (padded n numbers) ≡ block_length
padded-length n numbers h e = simp (length-append, length-replicate) (omega arith)

module _ (b : List ℕ) (size : length b ≡ book_length) (i : ℕ) (low : i < 12) (mark meter bill : ℕ) (block : List ℕ) (full : length block ≡ block_length) where
  pub put-mark : get_or (put_month b i mark meter bill block) (mark_at i) 0 ≡ mark
  unfolding put_month
  put-mark =
      let h₁ : mark_at i < block_at i = omega arith in let h₂ : mark_at i ≢ bill_at i = omega arith in let h₃ : mark_at i ≢ meter_at i = omega arith in
      let h₄ : mark_at i < length b = omega arith in
      simp (get_d_sets_below, get_or-set_other, get_or-set_same)

  pub put-meter : get_or (put_month b i mark meter bill block) (meter_at i) 0 ≡ meter
  unfolding put_month
  put-meter =
      let h₁ : meter_at i < block_at i = omega arith in let h₂ : meter_at i ≢ bill_at i = omega arith in
      let h₃ : meter_at i < length (set b (mark_at i) mark) = rw length-set (omega arith) in
      simp (get_d_sets_below, get_or-set_other, get_or-set_same)

  pub put-bill : get_or (put_month b i mark meter bill block) (bill_at i) 0 ≡ bill
  unfolding put_month
  put-bill =
      let h₁ : bill_at i < block_at i = omega arith in
      let h₂ : bill_at i < length (set (set b (mark_at i) mark) (meter_at i) meter) = simp length-set (omega arith) in
      simp (get_d_sets_below, get_or-set_same)

  pub put-block : (k : ℕ) → k < block_length → get_or (put_month b i mark meter bill block) (block_at i + k) 0 ≡ get_or block k 0
  unfolding put_month
  put-block k h = get_d_sets_in block _ (block_at i) k (omega arith) (simp length-set (omega arith))

  -- everything else stays
  pub put_other : (x : ℕ) → x ≢ mark_at i → x ≢ meter_at i → x ≢ bill_at i → (x < block_at i) ⊎ (block_at i + block_length ≤ x) → get_or (put_month b i mark meter bill block) x 0 ≡ get_or b x 0
  unfolding put_month
  put_other x p q r (inl h) = simp (get_d_sets_below, get_or-set_other)
  put_other x p q r (inr h) = let h' : block_at i + length block ≤ x = omega arith in simp (get_d_sets_above, get_or-set_other)

-- ---- a fresh book
pub zero-length : length zero_book ≡ book_length
unfolding zero_book
zero-length = length-replicate {A = ℕ} book_length 0

pub zero_book-at : (x : ℕ) → get_or zero_book x 0 ≡ 0
unfolding zero_book
zero_book-at x = zero-at book_length x

module _ (sheet : List ℕ) where
  ids : List ℕ
  ids = map (λ u. u.id) (sheet_of sheet).units

  pub fresh-length : length (fresh_book sheet) ≡ book_length
  unfolding fresh_book
  fresh-length = simp (length-sets, length-set) zero-length

  pub fresh-count : unit_count_in (fresh_book sheet) ≡ (sheet_of sheet).unit_count
  unfolding fresh_book ids
  fresh-count = get_d_sets_below ids _ ids_at 0 (omega arith) ∙ get_or-set_same zero_book 0 _ 0 (omega (arith, zero-length))

  -- the marks, M and bills
  pub fresh-low : (x : ℕ) → 0 < x → x < ids_at → get_or (fresh_book sheet) x 0 ≡ 0
  unfolding fresh_book ids
  fresh-low x h l = get_d_sets_below ids _ ids_at x l ∙ get_or-set_other zero_book 0 x _ 0 (omega arith) ∙ zero_book-at x

  -- what stands behind the ids
  pub fresh-high : (x : ℕ) → ids_at + (sheet_of sheet).unit_count ≤ x → get_or (fresh_book sheet) x 0 ≡ 0
  unfolding fresh_book ids
  fresh-high x h = get_d_sets_above ids _ ids_at x (omega (arith, ids-count sheet)) ∙ get_or-set_other zero_book 0 x _ 0 (omega arith) ∙ zero_book-at x

  pub fresh-id : (sheet_of sheet).unit_count ≤ 160 → (i : ℕ) → get_or (fresh_book sheet) (ids_at + i) 0 ≡ get_or (map (λ u. u.id) (sheet_of sheet).units) i 0
  unfolding fresh_book ids
  fresh-id few i = elim (dec_lt i (sheet_of sheet).unit_count) [
    | yes h ↦ get_d_sets_in ids (set zero_book 0 (sheet_of sheet).unit_count) ids_at i (omega (arith, ids-count sheet)) (rw length-set (omega (arith, ids-count sheet, zero-length)))
    | no h ↦ fresh-high (ids_at + i) (omega arith) ∙ sym (get_or-eq_default ids 0 (omega (arith, ids-count sheet)))
  ]

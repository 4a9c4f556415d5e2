-- 2026-02 (specs/Matches.antt): opening leaves lists that match, and every call keeps them matching. Assumes nothing.
use mathlib.Core.Path.{◌≡◌, refl, sym, ap, subst, ◌∙◌}
use mathlib.Core.Logic.{◌≢◌, inl}
use mathlib.Core.Bool.{false}
use mathlib.Core.List.{List}
use Prim.Native.Nat.{ℕ, zero, suc, ◌+◌, ◌-◌, ◌<◌}
use native.Mathlib.Omega.{arith}
use native.Mathlib.Decide.{ℕ_discrete}
use lib.ListN.{length, get_or, length-replicate}
use Rattle.sheet.specs.Refusals.{Outcome, afterwards}
use Rattle.std.specs.Prelude.{Ok, Err}
use Rattle.month.specs.Laws.{sum_to}
use Rattle.month.proofs.Lists.{sum_to_cong}
use Rattle.yearbook.specs.Calls.{Call, post, replace, withdraw, year}
use Rattle.year_sums.specs.YearSums.{sums_length, zero_sums, updated, bad_sums}
use Rattle.yearbook.specs.LentBook.{Lent, lent, book_length, mark_at, block_at, block_length, block_in, block_of, zero_block, place_of_month, put_month, put_sheet, clear_month, fresh_book, opened, post_answer, posted, replace_answer, replaced, with_sheet, withdraw_answer, withdrawn, if_marked, lent_after}
use Rattle.yearbook.specs.Matches.{block_sum, Matches, OpenedMatch, MatchKept}
use Rattle.yearbook.specs.declared.bring.Entry.{Entry}
use Rattle.yearbook.specs.declared.bring.Entry.TheVariants.{Post, Replace}
use Rattle.yearbook.specs.Inner.Bring.{taken_off}
use Rattle.year_sums.proofs.Lists.{zero-at}
use Rattle.year_sums.proofs.Updating.{updated-length, updated-at, good-at}
use Rattle.yearbook.proofs.Sums.{sum_to-zeros}
use Rattle.yearbook.proofs.Sound.{book-sound}
use Rattle.yearbook.proofs.Writes.{put-mark, put-block, put_other, fresh-low}
use Rattle.yearbook.proofs.Settled.{sheet-accepted, block_length_lem}
use Rattle.yearbook.proofs.Blocks.{Counted, stored_counted, taken_counted}
use Rattle.yearbook.proofs.Accepts.{BringPasses, bring_passes, WithdrawPasses, withdraw-passes}
use Rattle.yearbook.proofs.Shows.{outside}

-- ---- one term of a sum changes
sum_to_change : (n : ℕ) (f g : ℕ → ℕ) (i : ℕ) → i < n → ((k : ℕ) → k < n → k ≢ i → g k ≡ f k) → sum_to n g + f i ≡ sum_to n f + g i
unfolding sum_to
sum_to_change zero f g i h same = absurd (omega arith)
sum_to_change (suc n) f g i h same = elim (ℕ_discrete i n) [
  | yes e ↦
      let rest = sum_to_cong n g f (λ k l. same k (omega arith) (omega arith)) in
      let at = ap f e in let to = ap g e in
      omega (arith, rest, at, to)
  | no d ↦ omega (arith, sum_to_change n f g i (omega arith) (λ k l m. same k (omega arith) m), same n (omega arith) (λ e. d (sym e)))
]

-- ---- a month is written
module _ (b : List ℕ) (size : length b ≡ book_length) (i : ℕ) (low : i < 12) (mark meter bill : ℕ) (block : List ℕ) (full : length block ≡ block_length) where
  written : List ℕ
  written = put_month b i mark meter bill block

  put-sum : (at : ℕ) → at < block_length
      → block_sum written at + if_marked (get_or b (mark_at i) 0) (get_or b (block_at i + at) 0) ≡ block_sum b at + if_marked mark (get_or block at 0)
  unfolding block_sum written
  put-sum at h =
      let term : List ℕ → ℕ → ℕ = λ b i. if_marked (get_or b (mark_at i) 0) (get_or b (block_at i + at) 0) in
      sum_to_change 12 (term b) (term written) i low (λ k l d.
      let m = put_other b size i low mark meter bill block full (mark_at k) (omega arith) (omega arith) (omega arith) (inl (omega arith)) in
      let x = put_other b size i low mark meter bill block full (block_at k + at) (omega arith) (omega arith) (omega arith) (outside i k at d h) in
      rw (m, x))
      ∙ rw (put-mark b size i low mark meter bill block full, put-block b size i low mark meter bill block full at h)

-- what the month had leaves the sums, what is written enters them
match_put : {l : Lent} → length l.book ≡ book_length → Matches l → (i : ℕ) → i < 12 → (old block : List ℕ) → Counted l.book i old → length block ≡ block_length
    → bad_sums l.sums old block ≡ false → (mark meter bill : ℕ) → ((k : ℕ) → if_marked mark (get_or block k 0) ≡ get_or block k 0)
    → Matches (lent (put_month l.book i mark meter bill block) (updated l.sums old block))
unfolding written
match_put {l} size m i low old block has full good mark meter bill counts = record {
  size = updated-length l.sums old block m.size has.full full;
  each = λ at h.
      let fits = good-at l.sums old block m.size has.full full good at h in
      let sums = put-sum l.book size i low mark meter bill block full at h in
      omega (arith, updated-at l.sums old block m.size has.full full at h, m.each at h, fits.above, sums, has.each at h, counts at);
}

-- ---- post and replace
match_brought : (entry : Entry) {l : Lent} (sheet : List ℕ) → Matches l → BringPasses entry l sheet → Matches (with_sheet l sheet (taken_off entry l.book sheet))
unfolding with_sheet put_sheet
match_brought w {l} sheet m p =
    let size = (book-sound l.book p.sound).size in
    let fit = (sheet-accepted sheet p.settles).checked-sheet.header in
    let low : place_of_month sheet < 12 = omega (arith, fit.month) in
    match_put size m (place_of_month sheet) low (taken_off w l.book sheet) (block_of sheet) (taken_counted w l.book sheet size low p.right) (block_length_lem sheet p.settles) p.good 1 _ _ (λ k. refl)

-- ---- withdraw
match_withdrawn : {l : Lent} (month : ℕ) → Matches l → WithdrawPasses l month
    → Matches (lent (clear_month l.book month) (updated l.sums (block_in l.book (month - 1)) zero_block))
unfolding clear_month
match_withdrawn {l} month m p =
    let size = (book-sound l.book p.sound).size in
    let low : month - 1 < 12 = omega (arith, p.low, p.high) in
    match_put size m (month - 1) low (block_in l.book (month - 1)) zero_block (stored_counted l.book size (month - 1) low p.stands) (length-replicate {A = ℕ} block_length 0) p.good 0 0 0
    (λ k. sym (zero-at block_length k))

-- ---- any call
match_after : (l : Lent) → Matches l → (c : Call) → Matches (lent_after l c)
unfolding lent_after posted replaced withdrawn post_answer replace_answer
match_after l m (post sheet) = go (post_answer l sheet) refl
  where
    go : (o : Outcome) → post_answer l sheet ≡ o → Matches (afterwards o l (with_sheet l sheet zero_block))
    go (Err r) e = m
    go (Ok tt) e = match_brought Post sheet m (bring_passes Post l sheet e)
match_after l m (replace sheet) = go (replace_answer l sheet) refl
  where
    go : (o : Outcome) → replace_answer l sheet ≡ o → Matches (afterwards o l (with_sheet l sheet (block_in l.book (place_of_month sheet))))
    go (Err r) e = m
    go (Ok tt) e = match_brought Replace sheet m (bring_passes Replace l sheet e)
match_after l m (withdraw month) = go (withdraw_answer l month) refl
  where
    go : (o : Outcome) → withdraw_answer l month ≡ o → Matches (afterwards o l (lent (clear_month l.book month) (updated l.sums (block_in l.book (month - 1)) zero_block)))
    go (Err r) e = m
    go (Ok tt) e = match_withdrawn month m (withdraw-passes l month e)
match_after l m (year place) = m

pub match_kept : MatchKept
match_kept l l' c r a m = subst Matches (sym a.after) (match_after l m c)

-- ---- opening
no_marks : (b : List ℕ) → ((i : ℕ) → i < 12 → get_or b (mark_at i) 0 ≡ 0) → (at : ℕ) → block_sum b at ≡ 0
unfolding block_sum
no_marks b h at = sum_to_cong 12 _ (λ i. 0) (λ i l. rw (h i l)) ∙ sum_to-zeros 12

pub match_fresh : (sheet : List ℕ) → Matches (lent (fresh_book sheet) zero_sums)
match_fresh sheet = record {
  size = length-replicate {A = ℕ} sums_length 0;
  each = λ at h. zero-at sums_length at ∙ sym (no_marks (fresh_book sheet) (λ i l. fresh-low sheet (mark_at i) (omega arith) (omega arith)) at);
}

pub opened_match : OpenedMatch
unfolding opened
opened_match before after sheet o = subst Matches (sym (o.after ∙ rw (← o.answer))) (match_fresh sheet)

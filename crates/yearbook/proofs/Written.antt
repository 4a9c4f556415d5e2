-- What opening and accepted calls leave in any lent lists (specs/Cases/Written.antt). Assumes nothing.
use mathlib.Core.Path.{◌≡◌, refl, ap, ap₂, sym, subst, ◌∙◌}
use mathlib.Core.List.{List, [], ◌∷◌, map}
use Prim.Native.Nat.{ℕ, ◌+◌, ◌-◌, ◌<◌}
use native.Mathlib.Omega.{arith}
use native.Mathlib.Decide.{dec_lt}
use lib.ListN.{length, get_or, length-replicate}
use Rattle.std.specs.Prelude.{Ok}
use Rattle.sheet.specs.RuleSets.{newest}
use Rattle.sheet.specs.Layout.{sheet_of}
use Rattle.sheet.specs.Check.{sheet_rules, checked}
use Rattle.sheet.proofs.Passed.{none-holds, holds-none, none_of-both}
use Rattle.month.specs.Month.{Month, month_rules, settle_rules, month_of, Settled, settled, settled_sheet}
use Rattle.month.proofs.Laws.{settled-month}
use Rattle.yearbook.specs.Calls.{Call, post, replace, withdraw, accepted}
use Rattle.year_sums.specs.YearSums.{sums_length, zero_sums, updated}
use Rattle.yearbook.specs.LentBook.{Lent, lent, book_length, ids_at, mark_at, meter_at, bill_at, block_at, block_length, place_of_month, block_in, padded, zero_block, put_month, put_sheet, clear_month, fresh_book, with_sheet, post_answer, posted, replace_answer, replaced, withdraw_answer, withdrawn, lent_reply, lent_after}
use Rattle.yearbook.specs.declared.bring.Entry.TheVariants.{Post, Replace}
use Rattle.yearbook.specs.Cases.Written.{january, december, january_settled, december_settled, january_numbers, december_numbers, both_settle, places, numbers, takes, Left, Fresh, Written}
use Rattle.yearbook.proofs.Places.{same_outcome}
use Rattle.yearbook.proofs.Sound.{book-sound}
use Rattle.yearbook.proofs.Answers.{open_accepted}
use Rattle.yearbook.proofs.Accepts.{bring_passes, withdraw-passes}
use Rattle.year_sums.proofs.Lists.{zero-at}
use Rattle.year_sums.proofs.Updating.{right-length, updated-length, updated-at}
use Rattle.yearbook.proofs.Stores.{zeros-after}
use Rattle.yearbook.proofs.Blocks.{stored-length, stored_at}
use Rattle.yearbook.proofs.Writes.{put-length, put-mark, put-meter, put-bill, put-block, put_other, fresh-length, fresh-count, fresh-low, fresh-high, fresh-id}

-- ---- an accepted call writes a month and updates the sums
record Puts (l after : Lent) (i mark meter bill : ℕ) (old block : List ℕ) : Type 0 where
  size : length l.book ≡ book_length
  count : length l.sums ≡ sums_length
  is : after ≡ lent (put_month l.book i mark meter bill block) (updated l.sums old block)

module _ (l : Lent) where
  withdraw_puts : (month : ℕ) → lent_reply l (withdraw month) ≡ accepted → Puts l (lent_after l (withdraw month)) (month - 1) 0 0 0 (block_in l.book (month - 1)) zero_block
  unfolding lent_reply lent_after withdrawn clear_month
  withdraw_puts month e =
      let a : withdraw_answer l month ≡ Ok tt = same_outcome (withdraw_answer l month) (Ok tt) e in
      let p = withdraw-passes l month a in
      record { size = (book-sound l.book p.sound).size; count = right-length _ _ _ p.good; is = rw a }

  -- a sheet that settles to m
  module _ (sheet : List ℕ) (m : Month) (settles : settled_sheet newest sheet ≡ settled m) where
    block : List ℕ
    block = padded m.unit_count m.numbers

    sheet_puts : (old : List ℕ) → with_sheet l sheet old ≡ lent (put_month l.book (m.month - 1) 1 m.meter m.bill block) (updated l.sums old block)
    unfolding with_sheet put_sheet month_of block
    sheet_puts old = rw (settled-month newest sheet m settles).1

    month-is : (sheet_of sheet).month ≡ m.month
    unfolding month_of
    month-is = ap (λ (x : Month). x.month) (sym (settled-month newest sheet m settles).1)

    post_puts : lent_reply l (post sheet) ≡ accepted → Puts l (lent_after l (post sheet)) (m.month - 1) 1 m.meter m.bill zero_block (padded m.unit_count m.numbers)
    unfolding lent_reply lent_after post_answer posted block
    post_puts e =
        let a : post_answer l sheet ≡ Ok tt = same_outcome (post_answer l sheet) (Ok tt) e in
        let p = bring_passes Post l sheet a in
        record { size = (book-sound l.book p.sound).size; count = right-length _ _ _ p.good; is = rw a (sheet_puts zero_block) }

    replace_puts : lent_reply l (replace sheet) ≡ accepted
        → Puts l (lent_after l (replace sheet)) (m.month - 1) 1 m.meter m.bill (block_in l.book (m.month - 1)) (padded m.unit_count m.numbers)
    unfolding lent_reply lent_after replace_answer replaced block
    replace_puts e =
        let a : replace_answer l sheet ≡ Ok tt = same_outcome (replace_answer l sheet) (Ok tt) e in
        let p = bring_passes Replace l sheet a in
        record {
          size = (book-sound l.book p.sound).size;
          count = right-length _ _ _ p.good;
          is = rw a (sheet_puts (block_in l.book (place_of_month sheet))
              ∙ ap (λ (x : ℕ). lent (put_month l.book (m.month - 1) 1 m.meter m.bill block) (updated l.sums (block_in l.book (x - 1)) block)) month-is);
        }

-- ---- so it leaves that month's numbers
left : {l after : Lent} {old block : List ℕ} {i mark meter bill : ℕ} (p : Puts l after i mark meter bill old block) → i < 12 → length block ≡ block_length → length old ≡ block_length
    → (statement : List ℕ) → ((k : ℕ) → get_or block k 0 ≡ get_or statement k 0)
    → (c : Call) → ((k : ℕ) → k < block_length → get_or old k 0 ≡ takes c (get_or l.book (block_at i + k) 0))
    → Left l after c (numbers mark meter bill statement) (places (mark_at i) (meter_at i) (bill_at i) (block_at i))
left {l} {after} {old} {block} {i} {mark} {meter} {bill} p low full off statement shown c taken = record {
  size = rw p.is (put-length b i mark meter bill block ∙ p.size);
  mark = rw p.is (put-mark b p.size i low mark meter bill block full);
  meter = rw p.is (put-meter b p.size i low mark meter bill block full);
  bill = rw p.is (put-bill b p.size i low mark meter bill block full);
  block = λ k f. rw p.is (put-block b p.size i low mark meter bill block full k f ∙ shown k);
  others = λ x h₁ h₂ h₃ h. rw p.is (put_other b p.size i low mark meter bill block full x h₁ h₂ h₃ h);
  sums-size = rw p.is (updated-length l.sums old block p.count off full);
  sums = λ k f. rw p.is (updated-at l.sums old block p.count off full k f ∙ ap₂ (λ (x y : ℕ). get_or l.sums k 0 - x + y) (taken k f) (shown k));
}
  where
    b : List ℕ
    b = l.book

-- ---- the two sheets
january-settles : settled_sheet newest january ≡ settled january_settled
january-settles = ap (λ (l : List Settled). get_or l 0 (settled january_settled)) both_settle

december-settles : settled_sheet newest december ≡ settled december_settled
december-settles = ap (λ (l : List Settled). get_or l 1 (settled december_settled)) both_settle

-- ---- a book opened with the first
january-is : january_settled ≡ month_of newest (sheet_of january)
january-is = (settled-month newest january january_settled january-settles).1

two : (sheet_of january).unit_count ≡ 2
unfolding month_of
two = ap (λ (m : Month). m.unit_count) (sym january-is)

ids : map (λ u. u.id) (sheet_of january).units ≡ 11 ∷ 12 ∷ []
unfolding month_of
ids = ap (λ (m : Month). m.ids) (sym january-is)

passes : checked 32 january ≡ Ok tt
unfolding checked settle_rules
passes = holds-none _ (none_of-both (sheet_rules 32 january) (month_rules (sheet_of january)) (none-holds _ (settled-month newest january january_settled january-settles).0)).0

fresh : Fresh (lent (fresh_book january) zero_sums)
fresh = record {
  size = fresh-length january;
  count = fresh-count january ∙ two;
  first = id-at 0;
  second = id-at 1;
  others = λ x h₀ h₁ h₂. elim (dec_lt x 37) [
    | yes h ↦ fresh-low january x (omega arith) h
    | no h ↦ fresh-high january x (omega (arith, two))
  ];
  sums-size = length-replicate {A = ℕ} sums_length 0;
  sums = zero-at sums_length;
}
  where
    id-at : (i : ℕ) → get_or (fresh_book january) (ids_at + i) 0 ≡ get_or (11 ∷ 12 ∷ []) i 0
    id-at i = fresh-id january (omega (arith, two)) i ∙ ap (λ (l : List ℕ). get_or l i 0) ids

-- ---- the lines
-- a month posted, replaced, withdrawn: its old block is none, or the one that stands there
module _ {l after : Lent} {i mark meter bill : ℕ} {block : List ℕ} (low : i < 12) (full : length block ≡ block_length) (statement : List ℕ) (shown : (k : ℕ) → get_or block k 0 ≡ get_or statement k 0) where
  none-off : (sheet : List ℕ) → Puts l after i mark meter bill zero_block block → Left l after (post sheet) (numbers mark meter bill statement) (places (mark_at i) (meter_at i) (bill_at i) (block_at i))
  none-off sheet p = left p low full (length-replicate {A = ℕ} block_length 0) statement shown (post sheet) (λ k f. zero-at block_length k)

  module _ (p : Puts l after i mark meter bill (block_in l.book i) block) where
    off : (c : Call) → ((x : ℕ) → takes c x ≡ x) → Left l after c (numbers mark meter bill statement) (places (mark_at i) (meter_at i) (bill_at i) (block_at i))
    off c all = left p low full (stored-length l.book p.size i low) statement shown c (λ k f. stored_at l.book p.size i low k f ∙ sym (all _))

january_shown : (k : ℕ) → get_or (padded 2 january_numbers) k 0 ≡ get_or january_numbers k 0
january_shown = zeros-after january_numbers 1264

december_shown : (k : ℕ) → get_or (padded 2 december_numbers) k 0 ≡ get_or december_numbers k 0
december_shown = zeros-after december_numbers 1264

pub lent-lists : Written
lent-lists = record {
  opening = λ l size count. subst Fresh (open_accepted l january size passes count).after fresh;
  called = (
    (
      λ l e. none-off (omega arith) refl january_numbers january_shown january (post_puts l january january_settled january-settles e),
      (λ l e. off (omega arith) refl january_numbers january_shown (replace_puts l january january_settled january-settles e) (replace january) (λ x. refl), tt),
    ),
    (
      (λ l e. off (omega arith) refl [] (zero-at block_length) (withdraw_puts l 1 e) (withdraw 1) (λ x. refl), tt),
      (
        (
          λ l e. none-off (omega arith) refl december_numbers december_shown december (post_puts l december december_settled december-settles e),
          (λ l e. off (omega arith) refl december_numbers december_shown (replace_puts l december december_settled december-settles e) (replace december) (λ x. refl), tt),
        ),
        ((λ l e. off (omega arith) refl [] (zero-at block_length) (withdraw_puts l 12 e) (withdraw 12) (λ x. refl), tt), tt),
      ),
    ),
  );
}

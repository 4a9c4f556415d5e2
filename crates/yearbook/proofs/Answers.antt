-- Each outcome of each call, by the tests on the way to it: what its contract says there. Assumes nothing.
use mathlib.Core.Path.{◌≡◌, refl, ◌∙◌}
use mathlib.Core.Bool.{true, false, not}
use mathlib.Core.List.{List, [], ◌∷◌}
use Prim.Native.Nat.{ℕ, ◌+◌, ◌-◌, ◌≤◌, ◌<◌}
use native.Mathlib.Omega.{arith}
use borrow.Author.Tests.{lt-ltb, le-ltb, eq-eqb, ne_eqb}
use lib.ListN.{length}
use Rattle.sheet.specs.declared.refusal.Refusal.{Refusal}
use Rattle.sheet.specs.declared.refusal.Refusal.TheVariants.{BadYearBook, OtherBuilding, MonthState, NoSuchUnit, BadYearSums}
use Rattle.std.specs.Prelude.{Ok, Err}
use Rattle.sheet.specs.Refusals.{Rule, ◌⇒◌, first_refusal}
use Rattle.sheet.specs.RuleSets.{newest}
use Rattle.sheet.specs.Layout.{sheet_of}
use Rattle.sheet.specs.Check.{sheet_rules, checked}
use Rattle.sheet.proofs.Rules.{first-refused, first-accepted}
use Rattle.month.specs.Month.{Month, Settled, month_rules, settle_rules, settled_sheet}
use Rattle.month.proofs.Laws.{settled-month}
use Rattle.yearbook.specs.Calls.{withdraw, accepted, refused}
use Rattle.year_sums.specs.YearSums.{sums_length, zero_sums, updated, wrong_sums, bad_sums}
use Rattle.yearbook.specs.LentBook.{sums_at}
use Rattle.yearbook.specs.LentBook.{Lent, lent, book_length, unit_count_in, marked, bad_book, other_building, block_in, block_of, zero_block, put_month, sheet_call_rules, clear_month, fresh_book, open_answer, opened, with_sheet, post_answer, posted, replace_answer, replaced, withdraw_answer, withdrawn, year_rules, year_outcome, marks_in, year_answer, lent_reply, lent_after, Opens, Answered, totals_by, Tells}
use Rattle.yearbook.specs.declared.bring.Entry.{Entry}
use Rattle.yearbook.specs.declared.bring.Entry.TheVariants.{Post, Replace}
use Rattle.yearbook.specs.Inner.Bring.{bring_call, wrong_month, taken_off}

-- ---- open
module _ (l : Lent) (sheet : List ℕ) where
  pub open_15 : (length l.book ≡ book_length → ⊥) → Opens l sheet (Err BadYearBook) l
  unfolding open_answer opened first_refusal
  open_15 h = let e = ne_eqb (length l.book) book_length h in record { answer = rw e; after = rw e }

  module _ (size : length l.book ≡ book_length) where
    pub open_refused : (r : Refusal) → checked 32 sheet ≡ Err r → Opens l sheet (Err r) l
    unfolding open_answer opened first_refusal checked
    open_refused r h =
        let e = eq-eqb (length l.book) book_length size in let f = first-refused (sheet_rules 32 sheet) ((wrong_sums l.sums ⇒ BadYearSums) ∷ []) h in
        record { answer = rw (e, f); after = rw (e, f) }

    module _ (passes : checked 32 sheet ≡ Ok tt) where
      pub open_19 : (length l.sums ≡ sums_length → ⊥) → Opens l sheet (Err BadYearSums) l
      unfolding open_answer opened first_refusal checked
      open_19 h =
          let e = eq-eqb (length l.book) book_length size in let f = first-accepted (sheet_rules 32 sheet) ((wrong_sums l.sums ⇒ BadYearSums) ∷ []) passes in let g = ne_eqb (length l.sums) sums_length h in
          record { answer = rw (e, f, g); after = rw (e, f, g) }

      pub open_accepted : length l.sums ≡ sums_length → Opens l sheet (Ok tt) (lent (fresh_book sheet) zero_sums)
      unfolding open_answer opened first_refusal checked
      open_accepted h =
          let e = eq-eqb (length l.book) book_length size in let f = first-accepted (sheet_rules 32 sheet) ((wrong_sums l.sums ⇒ BadYearSums) ∷ []) passes in let g = eq-eqb (length l.sums) sums_length h in
          record { answer = rw (e, f, g); after = rw (e, f, g) }

-- ---- post and replace
module _ (entry : Entry) (l : Lent) (sheet : List ℕ) where
  rules : Entry → List Rule
  rules w = sheet_call_rules l sheet (wrong_month w l.book sheet) (taken_off w l.book sheet)

  by_refusal : {r : Refusal} → first_refusal (rules entry) ≡ Err r → Answered l (bring_call entry sheet) (refused r) l
  unfolding rules lent_reply lent_after post_answer posted replace_answer replaced
  by_refusal {r} = go entry
    where
      go : (w : Entry) → first_refusal (rules w) ≡ Err r → Answered l (bring_call w sheet) (refused r) l
      go Post e = record { reply = rw e; after = rw e }
      go Replace e = record { reply = rw e; after = rw e }

  pub bring_15 : bad_book l.book ≡ true → Answered l (bring_call entry sheet) (refused BadYearBook) l
  unfolding rules sheet_call_rules first_refusal
  bring_15 e = by_refusal (rw e)

  module _ (sound : bad_book l.book ≡ false) where
    pub bring_refused : (r : Refusal) → first_refusal (settle_rules sheet) ≡ Err r → Answered l (bring_call entry sheet) (refused r) l
    unfolding rules sheet_call_rules first_refusal
    bring_refused r e = by_refusal (rw sound (first-refused (settle_rules sheet) _ e))

    -- 1 to 7
    pub bring_unchecked : (r : Refusal) → checked 32 sheet ≡ Err r → Answered l (bring_call entry sheet) (refused r) l
    unfolding settle_rules checked
    bring_unchecked r e = bring_refused r (first-refused (sheet_rules 32 sheet) (month_rules (sheet_of sheet)) e)

    module _ (m : Month) (settles : settled_sheet newest sheet ≡ Settled.settled m) where
      behind : first_refusal (rules entry)
          ≡ first_refusal
          ((other_building l.book (sheet_of sheet) ⇒ OtherBuilding)
          ∷ (wrong_month entry l.book sheet ⇒ MonthState)
          ∷ (bad_sums l.sums (taken_off entry l.book sheet) (block_of sheet) ⇒ BadYearSums)
          ∷ [])
      unfolding rules sheet_call_rules first_refusal
      behind = rw sound (first-accepted (settle_rules sheet) _ (settled-month newest sheet m settles).0)

      pub bring_16 : other_building l.book (sheet_of sheet) ≡ true → Answered l (bring_call entry sheet) (refused OtherBuilding) l
      unfolding first_refusal
      bring_16 e = by_refusal (behind ∙ rw e)

      module _ (same : other_building l.book (sheet_of sheet) ≡ false) where
        pub bring_17 : wrong_month entry l.book sheet ≡ true → Answered l (bring_call entry sheet) (refused MonthState) l
        unfolding first_refusal
        bring_17 h = by_refusal (behind ∙ rw (same, h))

        module _ (right : wrong_month entry l.book sheet ≡ false) where
          pub bring_19 : bad_sums l.sums (taken_off entry l.book sheet) (block_of sheet) ≡ true → Answered l (bring_call entry sheet) (refused BadYearSums) l
          unfolding first_refusal
          bring_19 h = by_refusal (behind ∙ rw (same, right, h))

          pub bring_accepted : bad_sums l.sums (taken_off entry l.book sheet) (block_of sheet) ≡ false
              → Answered l (bring_call entry sheet) accepted (with_sheet l sheet (taken_off entry l.book sheet))
          unfolding rules first_refusal lent_reply lent_after post_answer posted replace_answer replaced
          bring_accepted h = go entry (behind ∙ rw (same, right, h))
            where
              go : (w : Entry) → first_refusal (rules w) ≡ Ok tt → Answered l (bring_call w sheet) accepted (with_sheet l sheet (taken_off w l.book sheet))
              go Post k = record { reply = rw k; after = rw k }
              go Replace k = record { reply = rw k; after = rw k }

-- ---- withdraw
module _ (l : Lent) (month : ℕ) where
  withdraw-by : {r : Refusal} → withdraw_answer l month ≡ Err r → Answered l (withdraw month) (refused r) l
  unfolding lent_reply lent_after withdrawn
  withdraw-by e = record { reply = rw e; after = rw e }

  pub withdraw_15 : bad_book l.book ≡ true → Answered l (withdraw month) (refused BadYearBook) l
  unfolding withdraw_answer first_refusal
  withdraw_15 e = withdraw-by (rw e)

  module _ (sound : bad_book l.book ≡ false) where
    pub withdraw-low : month < 1 → Answered l (withdraw month) (refused MonthState) l
    unfolding withdraw_answer first_refusal
    withdraw-low h = withdraw-by (rw (sound, lt-ltb month 1 h))

    pub withdraw-high : 12 < month → Answered l (withdraw month) (refused MonthState) l
    unfolding withdraw_answer first_refusal
    withdraw-high h = withdraw-by (rw (sound, le-ltb month 1 (omega (arith, h)), lt-ltb 12 month h))

    -- a month's place
    module _ (place : ℕ) (is : month ≡ place + 1) (below : place < 12) where
      from_marks : withdraw_answer l month
          ≡ first_refusal
          ((not (marked l.book place) ⇒ MonthState)
          ∷ (bad_sums l.sums (block_in l.book place) zero_block ⇒ BadYearSums)
          ∷ [])
      unfolding withdraw_answer first_refusal
      from_marks =
          let at : month - 1 ≡ place = omega (arith, is) in
          rw (sound, le-ltb month 1 (omega (arith, is)), le-ltb 12 month (omega (arith, is)), at)

      pub withdraw_17 : marked l.book place ≡ false → Answered l (withdraw month) (refused MonthState) l
      unfolding first_refusal
      withdraw_17 e = withdraw-by (from_marks ∙ rw e)

      module _ (stands : marked l.book place ≡ true) where
        pub withdraw_19 : bad_sums l.sums (block_in l.book place) zero_block ≡ true → Answered l (withdraw month) (refused BadYearSums) l
        unfolding first_refusal
        withdraw_19 e = withdraw-by (from_marks ∙ rw (stands, e))

        pub withdraw-accepted : bad_sums l.sums (block_in l.book place) zero_block ≡ false
            → Answered l (withdraw month) accepted (lent (put_month l.book place 0 0 0 zero_block) (updated l.sums (block_in l.book place) zero_block))
        unfolding first_refusal lent_reply lent_after withdrawn clear_month
        withdraw-accepted e =
            let at : month - 1 ≡ place = omega (arith, is) in
            let passes : withdraw_answer l month ≡ Ok tt = from_marks ∙ rw (stands, e) in
            record { reply = rw passes; after = rw (passes, at) }

-- ---- year
module _ (l : Lent) (place : ℕ) where
  by-outcome : {r : Refusal} → year_outcome l place ≡ Err r → Tells l place (Err r)
  unfolding lent_reply lent_after year_answer
  by-outcome e = record { answered = record { reply = rw e; after = refl }; whole = rw e }

  pub tells_15 : bad_book l.book ≡ true → Tells l place (Err BadYearBook)
  unfolding year_outcome year_rules first_refusal
  tells_15 e = by-outcome (rw e)

  module _ (sound : bad_book l.book ≡ false) where
    pub tells_18 : unit_count_in l.book ≤ place → Tells l place (Err NoSuchUnit)
    unfolding year_outcome year_rules first_refusal
    tells_18 h = by-outcome (rw (sound, le-ltb place (unit_count_in l.book) h))

    module _ (there : place < unit_count_in l.book) where
      pub tells_19 : (length l.sums ≡ sums_length → ⊥) → Tells l place (Err BadYearSums)
      unfolding year_outcome year_rules first_refusal
      tells_19 h = by-outcome (rw (sound, lt-ltb place (unit_count_in l.book) there, ne_eqb (length l.sums) sums_length h))

      pub tells_totals : length l.sums ≡ sums_length → Tells l place (totals_by (Ok tt) (marks_in l.book) (sums_at l.sums place))
      unfolding lent_reply lent_after year_answer year_outcome year_rules first_refusal
      tells_totals h =
          let f = lt-ltb place (unit_count_in l.book) there in let g = eq-eqb (length l.sums) sums_length h in
          record { answered = record { reply = rw (sound, f, g); after = refl }; whole = rw (sound, f, g) }

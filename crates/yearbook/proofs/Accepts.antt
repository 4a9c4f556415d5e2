-- What an accepted call tells: each of its tests, and the lists that it leaves. Assumes nothing.
use mathlib.Core.Path.{◌≡◌, refl}
use mathlib.Core.Bool.{true, false}
use mathlib.Core.List.{List}
use Prim.Native.Nat.{ℕ, ◌-◌, ◌≤◌}
use borrow.Author.Tests.{ltb-false, not-false}
use Rattle.std.specs.Prelude.{Ok}
use Rattle.sheet.specs.Refusals.{first_refusal}
use Rattle.sheet.specs.RuleSets.{newest}
use Rattle.sheet.specs.Layout.{sheet_of}
use Rattle.sheet.proofs.Passed.{none-holds, holds-none, none_of-both}
use Rattle.month.specs.Month.{Settled, month_of, settle_rules, settled_sheet}
use Rattle.year_sums.specs.YearSums.{bad_sums}
use Rattle.yearbook.specs.LentBook.{Lent, marked, bad_book, block_in, block_of, zero_block, sheet_call_rules, withdraw_answer}
use Rattle.yearbook.specs.declared.bring.Entry.{Entry}
use Rattle.yearbook.specs.Inner.Bring.{wrong_month, taken_off}

-- post and replace
pub record BringPasses (entry : Entry) (l : Lent) (sheet : List ℕ) : Type 0 where
  pub sound : bad_book l.book ≡ false
  pub settles : settled_sheet newest sheet ≡ Settled.settled (month_of newest (sheet_of sheet))
  pub right : wrong_month entry l.book sheet ≡ false
  pub good : bad_sums l.sums (taken_off entry l.book sheet) (block_of sheet) ≡ false

pub bring_passes : (entry : Entry) (l : Lent) (sheet : List ℕ)
    → first_refusal (sheet_call_rules l sheet (wrong_month entry l.book sheet) (taken_off entry l.book sheet)) ≡ Ok tt → BringPasses entry l sheet
unfolding sheet_call_rules settled_sheet
bring_passes w l sheet e =
    let all = none-holds _ e in
    let both = none_of-both (settle_rules sheet) _ all.1 in
    let accepted : first_refusal (settle_rules sheet) ≡ Ok tt = holds-none (settle_rules sheet) both.0 in
    record { sound = all.0; settles = rw accepted refl; right = both.1.1.0; good = both.1.1.1.0 }

-- withdraw
pub record WithdrawPasses (l : Lent) (month : ℕ) : Type 0 where
  pub sound : bad_book l.book ≡ false
  pub low : 1 ≤ month
  pub high : month ≤ 12
  pub stands : marked l.book (month - 1) ≡ true
  pub good : bad_sums l.sums (block_in l.book (month - 1)) zero_block ≡ false

pub withdraw-passes : (l : Lent) (month : ℕ) → withdraw_answer l month ≡ Ok tt → WithdrawPasses l month
unfolding withdraw_answer
withdraw-passes l month e =
    let all = none-holds _ e in
    record {
      sound = all.0;
      low = ltb-false month 1 all.1.0;
      high = ltb-false 12 month all.1.1.0;
      stands = not-false _ all.1.1.1.0;
      good = all.1.1.1.1.0;
    }

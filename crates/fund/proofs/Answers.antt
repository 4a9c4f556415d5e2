-- Each way through the calls is answered, and leaves the balance, as the definitions say. Assumes nothing.
use mathlib.Core.Path.{◌≡◌, refl, ◌∙◌}
use mathlib.Core.List.{List}
use Prim.Native.Nat.{ℕ, ◌+◌, ◌-◌, ◌^◌, ◌≤◌, ◌<◌}
use borrow.Author.Tests.{lt-ltb, le-ltb, le-leb, lt-leb}
use Rattle.std.specs.Prelude.{Ok, Err}
use Rattle.sheet.specs.declared.refusal.Refusal.{Refusal}
use Rattle.sheet.specs.declared.refusal.Refusal.TheVariants.{FundShort, RateTooHigh, FundFull}
use Rattle.sheet.specs.Refusals.{Outcome, first_refusal}
use Rattle.sheet.specs.Layout.{sheet_of}
use Rattle.sheet.specs.Check.{checked}
use Rattle.sheet.proofs.Rules.{first-refused, first-accepted}
use Rattle.month.specs.Month.{month_rules, settle_rules}
use Rattle.month.proofs.Accepted.{settle-in_order}
use Rattle.fund.specs.Fees.{month_fees}
use Rattle.fund.specs.Answer.{collect_rules, collect_answer, collected, pay_answer, paid_out}

-- ---- 1 to 12
module _ (bytes : List ℕ) where
  pub sheet_refused : {r : Refusal} → checked 32 bytes ≡ Err r → first_refusal (settle_rules bytes) ≡ Err r
  sheet_refused e = settle-in_order bytes ∙ rw e refl

  -- by the bytes of its view
  pub as_month : checked 32 bytes ≡ Ok tt → {shown : List ℕ} → shown ≡ bytes → {o : Outcome} → first_refusal (month_rules (sheet_of shown)) ≡ o → first_refusal (settle_rules bytes) ≡ o
  as_month passed same e = settle-in_order bytes ∙ rw (passed, ← same) e

-- ---- a month's fees
module _ (balance : ℕ) (bytes : List ℕ) (rate : ℕ) where
  abbrev pub Collects : Outcome → ℕ → Type 0
  Collects o after = (o ≡ collect_answer balance bytes rate) × (after ≡ collected balance bytes rate)

  pub refused : (o : Outcome) (r : Refusal) → o ≡ Err r → first_refusal (settle_rules bytes) ≡ Err r → Collects o balance
  unfolding collect_answer collected collect_rules
  refused o r is e = rw (is, first-refused (settle_rules bytes) _ e) (refl, refl)

  module _ (settles : first_refusal (settle_rules bytes) ≡ Ok tt) where
    pub rate_high : 1000000 < rate → Collects (Err RateTooHigh) balance
    unfolding collect_answer collected collect_rules first_refusal
    rate_high h = rw (first-accepted (settle_rules bytes) _ settles, lt-ltb 1000000 rate h) (refl, refl)

    module _ (rate_fits : rate ≤ 1000000) (fees : ℕ) (are : fees ≡ month_fees rate (sheet_of bytes)) where
      pub full_fund : 2 ^ 64 ≤ balance + fees → Collects (Err FundFull) balance
      unfolding collect_answer collected collect_rules first_refusal
      full_fund h = rw (first-accepted (settle_rules bytes) _ settles, le-ltb 1000000 rate rate_fits, ← are, le-leb (2 ^ 64) (balance + fees) h) (refl, refl)

      pub grows : balance + fees < 2 ^ 64 → (after : ℕ) → after ≡ balance + fees → Collects (Ok tt) after
      unfolding collect_answer collected collect_rules first_refusal
      grows h after is = rw (first-accepted (settle_rules bytes) _ settles, le-ltb 1000000 rate rate_fits, ← are, lt-leb (2 ^ 64) (balance + fees) h) (refl, is)

-- ---- a payment
module _ (balance amount : ℕ) where
  abbrev pub Pays : Outcome → ℕ → Type 0
  Pays o after = (o ≡ pay_answer balance amount) × (after ≡ paid_out balance amount)

  pub short : balance < amount → Pays (Err FundShort) balance
  unfolding pay_answer paid_out first_refusal
  short h = rw (lt-ltb balance amount h) (refl, refl)

  pub shrinks : amount ≤ balance → Pays (Ok tt) (balance - amount)
  unfolding pay_answer paid_out first_refusal
  shrinks h = rw (le-ltb balance amount h) (refl, refl)

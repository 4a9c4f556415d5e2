-- The fund over every list of calls (specs/Theorem.antt). Assumes nothing.
use mathlib.Core.Path.{◌≡◌, refl, sym, ap, ap₂, ◌∙◌}
use mathlib.Core.Bool.{Bool}
use mathlib.Core.Logic.{inl, inr}
use mathlib.Core.List.{[], ◌∷◌, ◌++◌}
use Prim.Native.Nat.{ℕ, zero, suc, ◌+◌, ◌^◌, ◌≤◌, ◌<◌}
use native.Mathlib.Omega.{arith}
use borrow.Author.Tests.{ltb-false, le-leb, lt-leb, leb-true, leb-false}
use lib.Dec.{leb, ltb}
use native.Mathlib.Decide.{dec_lt}
use lib.ListN.{length, take, length-append}
use lib.Seq.{take_all, take-append-le}
use Rattle.std.specs.Prelude.{Ok, Err}
use Rattle.sheet.specs.declared.refusal.Refusal.{Refusal}
use Rattle.sheet.specs.declared.refusal.Refusal.TheVariants.{FundShort}
use Rattle.sheet.specs.Refusals.{Outcome, ◌⇒◌, first_refusal, afterwards}
use Rattle.sheet.specs.Layout.{sheet_of}
use Rattle.sheet.proofs.Chains.{all_follow}
use Rattle.sheet.proofs.Passed.{none-holds, none_of-both}
use Rattle.month.specs.Month.{settle_rules}
use Rattle.month.proofs.Lists.{decided, sum-next}
use Rattle.fund.specs.Fees.{month_fees}
use Rattle.fund.specs.Answer.{collect_rules, past_64_bits, collect_answer, collected, pay_answer, paid_out}
use Rattle.fund.specs.PlainFund.{Call, collect, pay, PlainFund, new_fund, fees_of, payment_of, accepted_fees, accepted_payments, rules_of, called}
use Rattle.fund.specs.Theorem.{fund_answer, fund_after, Answered, Balanced, EveryListOfCalls}

-- a test with the same added on both sides
leb-shift : (k x y : ℕ) → leb x y ≡ leb (x + k) (y + k)
leb-shift k x y = elim (decided (leb x y)) [
  | inl e ↦ e ∙ sym (le-leb (x + k) (y + k) (omega (arith, leb-true x y e)))
  | inr e ↦ e ∙ sym (lt-leb (x + k) (y + k) (omega (arith, leb-false x y e)))
]

module _ {balance : ℕ} {p : PlainFund} (b : Balanced balance p) where
  -- ---- a call is answered as in the plain fund
  same-full : (fees : ℕ) → past_64_bits balance fees ≡ leb (2 ^ 64 + accepted_payments p) (accepted_fees p + fees)
  same-full fees = leb-shift (accepted_payments p) (2 ^ 64) (balance + fees) ∙ ap (leb (2 ^ 64 + accepted_payments p)) (omega (arith, b.balance_is))

  same-short : (amount : ℕ) → ltb balance amount ≡ ltb (accepted_fees p) (accepted_payments p + amount)
  same-short amount = leb-shift (accepted_payments p) (suc balance) amount ∙ ap₂ leb (omega (arith, b.balance_is)) (omega arith)

  same-answer : (c : Call) → fund_answer balance c ≡ (called p c).reply
  unfolding collect_answer pay_answer rules_of called
  same-answer (collect sheet rate) = ap (λ (full : Bool). first_refusal (collect_rules sheet rate full)) (same-full (month_fees rate (sheet_of sheet)))
  same-answer (pay amount) = ap (λ (short : Bool). first_refusal ((short ⇒ FundShort) ∷ [])) (same-short amount)

  -- ---- what it leaves
  kept : (c : Call) (after : ℕ) → after + payment_of c ≡ balance + fees_of c → after < 2 ^ 64 → Balanced after (p ++ c ∷ [])
  kept c after e fits = record {
    balance_is = omega (arith, sum-next fees_of p c, sum-next payment_of p c, e, b.balance_is);
    never_below_0 = λ k. elim (dec_lt (length p) k) [
      | yes h ↦ rw (take_all k (p ++ c ∷ []) (omega (arith, length-append p (c ∷ [])))) (omega (arith, sum-next fees_of p c, sum-next payment_of p c, e, b.balance_is))
      | no h ↦ rw (take-append-le k p (c ∷ []) (omega arith)) (b.never_below_0 k)
    ];
    fits_64_bits = fits;
  }

  accepted : (c : Call) → fund_answer balance c ≡ Ok tt → Balanced (fund_after balance c) (p ++ c ∷ [])
  unfolding collect_answer collect_rules collected pay_answer paid_out
  accepted (collect sheet rate) e =
      let h = none_of-both (settle_rules sheet) _ (none-holds _ e) in
      kept (collect sheet rate) _ (rw e (omega arith)) (rw e (leb-false (2 ^ 64) (balance + month_fees rate (sheet_of sheet)) h.1.1.0))
  accepted (pay amount) e =
      let h = ltb-false balance amount (none-holds _ e).0 in
      kept (pay amount) _ (rw e (omega (arith, h))) (rw e (omega (arith, b.fits_64_bits)))

  refused : (c : Call) (r : Refusal) → fund_answer balance c ≡ Err r → fund_after balance c ≡ balance
  unfolding collected paid_out
  refused (collect sheet rate) r e = rw e refl
  refused (pay amount) r e = rw e refl

  left : (c : Call) (o : Outcome) → fund_answer balance c ≡ o → Balanced (fund_after balance c) (afterwards o p (p ++ c ∷ []))
  left c (Ok tt) e = accepted c e
  left c (Err r) e = rw (refused c r e) b

follows : (balance after : ℕ) (c : Call) (answer : Outcome) (p : PlainFund) → Answered balance c answer after → Balanced balance p → (answer ≡ (called p c).reply) × Balanced after (called p c).after
unfolding called
follows balance after c answer p a b = (a.answer_is ∙ same-answer b c, rw a.after_is (left b c (called p c).reply (same-answer b c)))

new : Balanced 0 new_fund
new = record { balance_is = refl; never_below_0 = none; fits_64_bits = omega arith }
  where
    none : (k : ℕ) → accepted_payments (take k new_fund) ≤ accepted_fees (take k new_fund)
    none zero = omega arith
    none (suc k) = omega arith

-- ---- the theorem
pub every_list_of_calls : EveryListOfCalls
every_list_of_calls calls answers balance made =
    let all = all_follow Balanced follows made new_fund new in
    record { same-answers = all.0; balanced = all.1 }

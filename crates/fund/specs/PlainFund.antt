-- The plain fund (2026-07): it keeps the accepted calls, fees and payments, and never the balance.
use Rattle.std.specs.Prelude.{List, [], ◌∷◌, ◌++◌, map, ℕ, ◌+◌, ◌^◌, leb, ltb}
use Rattle.apportion.specs.Shares.{sum}
use Rattle.sheet.specs.declared.refusal.Refusal.TheVariants.{FundShort}
use Rattle.sheet.specs.Refusals.{Outcome, Rule, ◌⇒◌, first_refusal, afterwards}
use Rattle.sheet.specs.Chains.{Step}
use Rattle.sheet.specs.Layout.{sheet_of}
use Rattle.fund.specs.Fees.{month_fees}
use Rattle.fund.specs.Answer.{collect_rules}

pub data Call : Type 0 where
  collect : (sheet : List ℕ) (rate : ℕ) → Call  -- a sheet's bytes as they are at the call
  pay : (amount : ℕ) → Call

-- the calls accepted so far, in their order
abbrev pub PlainFund : Type 0
PlainFund = List Call

abbrev pub new_fund : PlainFund
new_fund = []

-- what a call brings the fund, and what it takes out, in cents
abbrev pub fees_of : Call → ℕ
fees_of (collect sheet rate) = month_fees rate (sheet_of sheet)
fees_of (pay amount) = 0

abbrev pub payment_of : Call → ℕ
payment_of (collect sheet rate) = 0
payment_of (pay amount) = amount

abbrev pub accepted_fees : PlainFund → ℕ
accepted_fees p = sum (map fees_of p)

abbrev pub accepted_payments : PlainFund → ℕ
accepted_payments p = sum (map payment_of p)

-- 25 when fees less payments would pass 64 bits; 23 when the payments would exceed the fees
unfoldable pub rules_of : PlainFund → Call → List Rule
rules_of p (collect sheet rate) = collect_rules sheet rate (leb (2 ^ 64 + accepted_payments p) (accepted_fees p + month_fees rate (sheet_of sheet)))
rules_of p (pay amount) = (ltb (accepted_fees p) (accepted_payments p + amount) ⇒ FundShort) ∷ []

abbrev pub answer_to : PlainFund → Call → Outcome
answer_to p c = first_refusal (rules_of p c)

-- An accepted call is kept.
unfoldable pub called : PlainFund → Call → Step PlainFund Outcome
called p c = record { reply = answer_to p c; after = afterwards (answer_to p c) p (p ++ c ∷ []) }

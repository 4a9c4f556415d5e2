-- The two calls on a fund's balance: the answer, and the balance afterwards; a refused call keeps it (2026-07).
use Rattle.std.specs.Prelude.{Bool, List, [], ◌∷◌, ◌++◌, ℕ, ◌+◌, ◌-◌, ◌^◌, leb, ltb}
use Rattle.sheet.specs.declared.refusal.Refusal.TheVariants.{FundShort, RateTooHigh, FundFull}
use Rattle.sheet.specs.Refusals.{Outcome, Rule, ◌⇒◌, first_refusal, afterwards}
use Rattle.sheet.specs.Layout.{sheet_of}
use Rattle.month.specs.Month.{settle_rules}
use Rattle.fund.specs.Fees.{month_fees}

-- ---- a month's fees
-- 1 to 12, first of all; 24 before any fee; 25 when `full`
unfoldable pub collect_rules : (sheet : List ℕ) (rate : ℕ) (full : Bool) → List Rule
collect_rules sheet rate full = settle_rules sheet ++ (ltb 1000000 rate ⇒ RateTooHigh) ∷ (full ⇒ FundFull) ∷ []

-- 25: balance and fees pass 64 bits
abbrev pub past_64_bits : (balance fees : ℕ) → Bool
past_64_bits balance fees = leb (2 ^ 64) (balance + fees)

unfoldable pub collect_answer : (balance : ℕ) (sheet : List ℕ) (rate : ℕ) → Outcome
collect_answer balance sheet rate = first_refusal (collect_rules sheet rate (past_64_bits balance (month_fees rate (sheet_of sheet))))

unfoldable pub collected : (balance : ℕ) (sheet : List ℕ) (rate : ℕ) → ℕ
collected balance sheet rate = afterwards (collect_answer balance sheet rate) balance (balance + month_fees rate (sheet_of sheet))

-- ---- a decided amount is paid out
-- 23: it exceeds the balance
unfoldable pub pay_answer : (balance amount : ℕ) → Outcome
pay_answer balance amount = first_refusal ((ltb balance amount ⇒ FundShort) ∷ [])

unfoldable pub paid_out : (balance amount : ℕ) → ℕ
paid_out balance amount = afterwards (pay_answer balance amount) balance (balance - amount)

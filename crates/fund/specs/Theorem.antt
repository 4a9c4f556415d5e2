-- The fund over every list of calls (2026-07). proofs/EveryList.antt proves it (`every_list_of_calls`) and assumes nothing. The customer's words stand in quotation marks.
use Rattle.std.specs.Prelude.{◌≡◌, List, ℕ, ◌+◌, ◌≤◌, ◌<◌, ◌^◌, take}
use Rattle.sheet.specs.Refusals.{Outcome}
use Rattle.sheet.specs.Chains.{CallsMade, replies, after_all}
use Rattle.fund.specs.Answer.{collect_answer, collected, pay_answer, paid_out}
use Rattle.fund.specs.PlainFund.{Call, collect, pay, PlainFund, new_fund, accepted_fees, accepted_payments, called}

-- ---- what the contract of a call says: its answer, and the balance that it leaves
abbrev pub fund_answer : (balance : ℕ) → Call → Outcome
fund_answer balance (collect sheet rate) = collect_answer balance sheet rate
fund_answer balance (pay amount) = pay_answer balance amount

abbrev pub fund_after : (balance : ℕ) → Call → ℕ
fund_after balance (collect sheet rate) = collected balance sheet rate
fund_after balance (pay amount) = paid_out balance amount

pub record Answered (balance : ℕ) (c : Call) (answer : Outcome) (after : ℕ) : Type 0 where
  pub answer_is : answer ≡ fund_answer balance c
  pub after_is : after ≡ fund_after balance c

-- ---- a balance beside the plain fund
pub record Balanced (balance : ℕ) (p : PlainFund) : Type 0 where
  -- "the balance is the accepted fees less the accepted payments"
  pub balance_is : balance + accepted_payments p ≡ accepted_fees p
  -- on the way too: the first k accepted calls paid no more than they brought
  pub never_below_0 : (k : ℕ) → accepted_payments (take k p) ≤ accepted_fees (take k p)
  pub fits_64_bits : balance < 2 ^ 64

-- calls on a new fund with their answers, and the balance that they leave
pub record Fund (calls : List Call) (answers : List Outcome) (balance : ℕ) : Type 0 where
  -- each call is answered as in the plain fund
  pub same-answers : answers ≡ replies called new_fund calls
  pub balanced : Balanced balance (after_all called new_fund calls)

-- "For every list of these calls on a new fund, each call given it as the last one left it", refused ones included; a new fund holds 0
abbrev pub EveryListOfCalls : Type 0
EveryListOfCalls = (calls : List Call) (answers : List Outcome) (balance : ℕ) → CallsMade Answered 0 calls answers balance → Fund calls answers balance

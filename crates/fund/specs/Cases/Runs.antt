-- A computed run of calls on a new fund, and one on a fund that is nearly full, worked by hand (2026-07).
use Rattle.std.specs.Prelude.{◌≡◌, refl, List, [], ◌∷◌, map, ℕ, Ok, Err}
use Rattle.apportion.specs.Shares.{shares_by}
use Rattle.sheet.specs.Tests.{all, any}
use Rattle.sheet.specs.Refusals.{Outcome, number_of, place_of, first_refusal}
use Rattle.sheet.specs.Chains.{Step, replies}
use Rattle.sheet.specs.Layout.{in_bytes, unit_row, rows, sheet_of}
use Rattle.sheet.specs.Check.{header_tests, row_tests, field_rules, row_rules, sheet_rules}
use Rattle.sheet.specs.Cases.Samples.{put, unit_bytes, joined, sheet_bytes, simple, good, watered}
use Rattle.month.specs.Weights.{all_metered, metered_sum, has_pool, total_area, unread_weight, unread_weights, read_surface, units_of_class, litres_of_class1, persons_of_class2}
use Rattle.month.specs.Steps.{split_by, hot_water, space_heat, heat_parts}
use Rattle.month.specs.Month.{hot_water_wh, space_heat_wh, zero_water_divisor, zero_divisor, month_rules, settle_rules}
use Rattle.fund.specs.Fees.{pays, month_fees}
use Rattle.fund.specs.Answer.{collect_rules, collect_answer, collected, pay_answer, paid_out}
use Rattle.fund.specs.PlainFund.{Call, collect, pay, new_fund, rules_of, called}
use Rattle.fund.specs.Theorem.{fund_answer, fund_after}
use Rattle.fund.specs.Cases.Answers.{one_without, all_read, most}

-- ---- a run: calls, the answers expected, and the balance that each leaves
pub data Answer : Type 0 where
  accepts : Answer
  refuses : (number place : ℕ) → Answer

abbrev pub answer_of : Outcome → Answer
answer_of (Ok tt) = accepts
answer_of (Err r) = refuses (number_of r) (place_of r)

infix 70 ◌gets◌leaving◌
pub data Line : Type 0 where
  ◌gets◌leaving◌ : Call → Answer → ℕ → Line

abbrev pub call_of : Line → Call
call_of (c gets a leaving b) = c

abbrev pub answer_in : Line → Answer
answer_in (c gets a leaving b) = a

abbrev pub balance_in : Line → ℕ
balance_in (c gets a leaving b) = b

-- each call as its contract says
abbrev pub step : ℕ → Call → Step ℕ Outcome
step balance c = record { reply = fund_answer balance c; after = fund_after balance c }

-- the balances that the calls leave, one after the other
abbrev pub balances : ℕ → List Call → List ℕ
balances balance [] = []
balances balance (c ∷ cs) = (step balance c).after ∷ balances (step balance c).after cs

-- From 0: fees of 5,000, 100, 0 and 2,500 cents, payments of 0, 3,000, 2,100 and 2,000. A refused call leaves all as it was.
unfoldable pub run : List Line
run =
    pay 1 gets refuses 23 0 leaving 0
    ∷ pay 0 gets accepts leaving 0
    ∷ collect good 50000 gets accepts leaving 5000
    ∷ pay 5001 gets refuses 23 0 leaving 5000
    ∷ pay 3000 gets accepts leaving 2000
    ∷ collect good 1000001 gets refuses 24 0 leaving 2000
    ∷ collect (put 6 13 good) 50000 gets refuses 4 6 leaving 2000
    ∷ collect (put 84 1 good) 1000001 gets refuses 20 1 leaving 2000  -- 20 before 24
    ∷ collect (watered 1001) 50000 gets refuses 8 0 leaving 2000
    ∷ collect good 1000 gets accepts leaving 2100  -- the same month once more
    ∷ pay 2100 gets accepts leaving 0
    ∷ pay 1 gets refuses 23 0 leaving 0
    ∷ collect all_read 50000 gets accepts leaving 0  -- no fees
    ∷ collect one_without 50000 gets accepts leaving 2500
    ∷ pay 2000 gets accepts leaving 500
    ∷ []

-- From the largest balance less 5,000: 25 until something is paid out.
nearly_full : List Line
nearly_full =
    collect good 50010 gets refuses 25 0 leaving 18446744073709546615
    ∷ collect good 50000 gets accepts leaving most
    ∷ collect good 10 gets refuses 25 0 leaving most
    ∷ collect good 1000001 gets refuses 24 0 leaving most  -- 24 before 25
    ∷ collect good 0 gets accepts leaving most
    ∷ pay 1 gets accepts leaving 18446744073709551614
    ∷ collect good 10 gets accepts leaving most
    ∷ pay most gets accepts leaving 0
    ∷ []

pub run-right : (map answer_of (replies called new_fund (map call_of run)) ≡ map answer_in run)
    × (map answer_of (replies step 0 (map call_of run)) ≡ map answer_in run)
    × (balances 0 (map call_of run) ≡ map balance_in run)
unfolding run simple good one_without all_read unit_bytes joined sheet_bytes in_bytes
    any all first_refusal unit_row rows sheet_of header_tests row_tests field_rules row_rules sheet_rules
    all_metered metered_sum has_pool total_area unread_weight unread_weights read_surface units_of_class litres_of_class1 persons_of_class2
    shares_by split_by hot_water space_heat heat_parts hot_water_wh space_heat_wh zero_water_divisor zero_divisor month_rules settle_rules
    pays month_fees collect_rules collect_answer collected pay_answer paid_out rules_of called replies
run-right = (refl, refl, refl)

-- What the plain fund beside it has kept: no run of this length gets there from 0, so it is one call of that many fees, at a rate that none accepts.
kept : Call
kept = collect good 184467440737095466150

nearly_full-right : (map answer_of (replies called (kept ∷ []) (map call_of nearly_full)) ≡ map answer_in nearly_full)
    × (map answer_of (replies step 18446744073709546615 (map call_of nearly_full)) ≡ map answer_in nearly_full)
    × (balances 18446744073709546615 (map call_of nearly_full) ≡ map balance_in nearly_full)
unfolding nearly_full kept simple good unit_bytes joined sheet_bytes in_bytes
    any all first_refusal unit_row rows sheet_of header_tests row_tests field_rules row_rules sheet_rules
    all_metered metered_sum has_pool total_area unread_weight unread_weights read_surface units_of_class litres_of_class1 persons_of_class2
    shares_by split_by hot_water space_heat heat_parts hot_water_wh space_heat_wh zero_water_divisor zero_divisor month_rules settle_rules
    pays month_fees collect_rules collect_answer collected pay_answer paid_out rules_of called replies
nearly_full-right = (refl, refl, refl)

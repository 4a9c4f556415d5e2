-- The theorem at the computed run (specs/Cases/Runs.antt): a new fund's calls can be made, and what it says holds in literal numbers. Assumes nothing.
use mathlib.Core.Path.{◌≡◌, refl, ap, ◌∙◌}
use mathlib.Core.List.{List, map}
use Prim.Native.Nat.{ℕ, ◌+◌, ◌^◌, ◌≤◌, ◌<◌}
use Rattle.apportion.specs.Shares.{shares_by}
use Rattle.sheet.specs.Tests.{all, any}
use Rattle.sheet.specs.Refusals.{first_refusal}
use Rattle.sheet.specs.Chains.{replies, after_all}
use Rattle.sheet.specs.Layout.{in_bytes, unit_row, rows, sheet_of}
use Rattle.sheet.specs.Check.{header_tests, row_tests, field_rules, row_rules, sheet_rules}
use Rattle.sheet.specs.Cases.Samples.{unit_bytes, joined, sheet_bytes, simple, good}
use Rattle.sheet.proofs.Chains.{made}
use Rattle.month.specs.Weights.{all_metered, metered_sum, has_pool, total_area, unread_weight, unread_weights, read_surface, units_of_class, litres_of_class1, persons_of_class2}
use Rattle.month.specs.Steps.{split_by, hot_water, space_heat, heat_parts}
use Rattle.month.specs.Month.{hot_water_wh, space_heat_wh, zero_water_divisor, zero_divisor, month_rules, settle_rules}
use Rattle.fund.specs.Fees.{pays, month_fees}
use Rattle.fund.specs.Answer.{collect_rules, collect_answer, collected, pay_answer, paid_out}
use Rattle.fund.specs.PlainFund.{Call, PlainFund, new_fund, accepted_fees, accepted_payments, rules_of, called}
use Rattle.fund.specs.Theorem.{Answered, Fund}
use Rattle.fund.specs.Cases.Answers.{one_without, all_read}
use Rattle.fund.specs.Cases.Runs.{answer_of, call_of, answer_in, step, run, run-right}
use Rattle.fund.proofs.EveryList.{every_list_of_calls}

calls : List Call
calls = map call_of run

last : ℕ
last = after_all step 0 calls

at-run : Fund calls (replies step 0 calls) last
unfolding last
at-run = every_list_of_calls calls (replies step 0 calls) (after_all step 0 calls) (made Answered step (λ balance c. record { answer_is = refl; after_is = refl }) 0 calls)

abbrev plain : PlainFund
plain = after_all called new_fund calls

record Said : Type 0 where
  answers : map answer_of (replies step 0 calls) ≡ map answer_in run
  balance : last ≡ 500
  fees : accepted_fees plain ≡ 7600
  payments : accepted_payments plain ≡ 7100
  less : ◌≡◌ {A = ℕ} (500 + 7100) 7600
  -- the first three accepted calls: nothing paid, fees of 5,000, 3,000 paid
  on_the_way : 3000 ≤ 5000
  fits : 500 < 2 ^ 64

at_run_said : Said
unfolding calls last run simple good one_without all_read unit_bytes joined sheet_bytes in_bytes
    any all first_refusal unit_row rows sheet_of header_tests row_tests field_rules row_rules sheet_rules
    all_metered metered_sum has_pool total_area unread_weight unread_weights read_surface units_of_class litres_of_class1 persons_of_class2
    shares_by split_by hot_water space_heat heat_parts hot_water_wh space_heat_wh zero_water_divisor zero_divisor month_rules settle_rules
    pays month_fees collect_rules collect_answer collected pay_answer paid_out rules_of called after_all
at_run_said = record {
  answers = ap (map answer_of) at-run.same-answers ∙ run-right.0;
  balance = refl;
  fees = refl;
  payments = refl;
  less = at-run.balanced.balance_is;
  on_the_way = at-run.balanced.never_below_0 3;
  fits = at-run.balanced.fits_64_bits;
}

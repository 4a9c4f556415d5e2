-- 1 to 7, then 8 to 12, then 24, 25.
use mathlib.Core.Path.{◌≡◌, sym, ap, ap₂, ◌∙◌}
use mathlib.Core.List.{List}
use Prim.Native.Nat.{ℕ}
use native.Mathlib.Omega.{arith}
use Rattle.std.specs.Prelude.{Ok}
use Rattle.std.proofs.Common.{Bor}
use Rattle.sheet.specs.Layout.{sheet_of}
use Rattle.sheet.specs.Refusals.{first_refusal}
use Rattle.sheet.proofs.Rules.{handed}
use Rattle.month.specs.Month.{settle_rules}
use Rattle.fund.specs.Fees.{month_fees}
use Rattle.fund.proofs.Answers.{sheet_refused, as_month, refused, rate_high, full_fund, grows}
use Rattle.fund.proofs.fund_calls.collect_fees.Goals.{In_ok-measure, After-month_fees}
use Rattle.fund.proofs.fund_calls.collect_fees.Goals as goal

pub returns-in_err-sheet : goal.returns-in_err-sheet
returns-in_err-sheet c =
    let a = c.args in
    let r = c.in_err-sheet.field-0.0 in
    let is = refused a.fund.now a.sheet.now a.rate c.from_residual.result r (handed c.from_residual.result r c.from_residual.ensures.1) (sheet_refused a.sheet.now (sym c.in_err-sheet.ensures.answer)) in
    record { value = is.0; fund_after = is.1 }

pub returns-in_err-measure : goal.returns-in_err-measure
returns-in_err-measure c =
    let a = c.args in
    let r = c.in_err-measure.field-0.0 in
    let own = ap (λ (b : Bor (List ℕ)). b.now) c.in_ok-sheet.ensures.sheet in
    let o = c.from_residual-in_err-measure in
    let is = refused a.fund.now a.sheet.now a.rate o.result r (handed o.result r o.ensures.1) (as_month a.sheet.now (sym c.in_ok-sheet.ensures.answer) own (sym c.in_err-measure.ensures.answer)) in
    record { value = is.0; fund_after = is.1 }

settles : (c : In_ok-measure) → first_refusal (settle_rules c.args.sheet.now) ≡ Ok tt
settles c = as_month c.args.sheet.now (sym c.in_ok-sheet.ensures.answer) (ap (λ (b : Bor (List ℕ)). b.now) c.in_ok-sheet.ensures.sheet) (sym c.in_ok-measure.ensures.answer)

pub returns-then-rate-gt-MAX_RATE : goal.returns-then-rate-gt-MAX_RATE
returns-then-rate-gt-MAX_RATE c =
    let a = c.args in
    let is = rate_high a.fund.now a.sheet.now a.rate (settles (goal.at.returns-then-rate-gt-MAX_RATE c).In_ok-measure) c.if-rate-gt-MAX_RATE.true in
    record { value = is.0; fund_after = is.1 }

fees : (c : After-month_fees) → c.month_fees.result ≡ month_fees c.args.rate (sheet_of c.args.sheet.now)
fees c = c.month_fees.ensures ∙ ap₂ month_fees c.from.ensures (ap (λ (b : Bor (List ℕ)). sheet_of b.now) c.in_ok-sheet.ensures.sheet)

pub returns-in_default : goal.returns-in_default
returns-in_default c =
    let a = c.args in
    let at = goal.at.returns-in_default c in
    let is = full_fund a.fund.now a.sheet.now a.rate (settles at.In_ok-measure) (omega (arith, c.if-rate-gt-MAX_RATE.false)) c.month_fees.result (fees at.After-month_fees) (omega (arith, c.in_default.ensures)) in
    record { value = is.0; fund_after = is.1 }

pub returns : goal.returns
returns c =
    let a = c.args in
    let at = goal.at.returns c in
    let is = grows a.fund.now a.sheet.now a.rate (settles at.In_ok-measure) (omega (arith, c.if-rate-gt-MAX_RATE.false)) c.month_fees.result (fees at.After-month_fees) c.in-Some.ensures.0 c.in-Some.grown c.in-Some.ensures.1 in
    record { value = is.0; fund_after = is.1 }

use mathlib.Core.Path.{sym, ap, ◌∙◌}
use mathlib.Core.List.{List}
use Prim.Native.Nat.{ℕ}
use Rattle.std.proofs.Common.{Bor}
use Rattle.sheet.specs.Layout.{Sheet, sheet_of}
use Rattle.sheet.specs.RuleSets.{newest}
use Rattle.sheet.proofs.Rules.{handed}
use Rattle.settlement.specs.Inner.Months.{month_answer, after_month}
use Rattle.settlement.proofs.Answers.{refused-sheet, by_month}
use Rattle.settlement.proofs.settling.settle.Goals as goal

pub returns-in_err-sheet : goal.returns-in_err-sheet
returns-in_err-sheet c =
    let a = c.args in
    let e = handed c.from_residual.result c.in_err-sheet.field-0.0 c.from_residual.ensures.1 in
    let r = refused-sheet newest a.sheet.now a.statement.now c.from_residual.result _ (e ∙ c.in_err-sheet.ensures.answer) e in
    record { value = r.0; statement_after = r.1 }

pub returns : goal.returns
returns c =
    let a = c.args in
    let own = c.in_ok-sheet.ensures.sheet in
    let passed = sym c.in_ok-sheet.ensures.answer in
    let by = by_month newest a.sheet.now a.statement.now passed in
    let same = ap (λ (b : Bor (List ℕ)). sheet_of b.now) own in
    record {
      value = c.settle_checked.ensures.value ∙ ap (λ (s : Sheet). month_answer newest s a.statement.now) same ∙ by.0;
      statement_after = c.settle_checked.ensures.statement_after ∙ ap (λ (s : Sheet). after_month newest s a.statement.now) same ∙ by.1;
    }

use mathlib.Core.Path.{◌≡◌, sym, ap, ap₂, ◌∙◌}
use mathlib.Core.List.{List}
use Rattle.std.proofs.Common.{Bor}
use Prim.Native.Nat.{ℕ}
use Rattle.sheet.specs.declared.rule_set.RuleSet.{RuleSet}
use Rattle.sheet.specs.Layout.{Sheet, sheet_of}
use Rattle.sheet.proofs.Rules.{handed}
use Rattle.sheet.specs.Refusals.{first_refusal}
use Rattle.month.specs.Month.{month_rules}
use Rattle.month.specs.Weights.{total_area}
use Rattle.month.specs.Steps.{whole_wh, heat_parts}
use Rattle.weights.specs.declared.totals.Totals.{Totals}
use Rattle.weights.specs.Inner.Months.{sheet_of_month}
use Rattle.settlement.proofs.Charging.{refused-sheet, refused-month, surveys}
use Rattle.settlement.proofs.building.survey_sheet.Goals as goal

pub returns-in_err-check : goal.returns-in_err-check
returns-in_err-check c =
    handed c.from_residual.result c.in_err-check.field-0.0 c.from_residual.ensures.1 ∙ refused-sheet c.args.rules c.args.sheet.now (sym c.in_err-check.ensures.answer)

pub returns-in_err-month : goal.returns-in_err-month
returns-in_err-month c =
    let same = ap (λ (b : Bor (List ℕ)). sheet_of b.now) c.in_ok-check.ensures.sheet in
    handed c.from_residual-in_err-month.result c.in_err-month.field-0.0 c.from_residual-in_err-month.ensures.1
    ∙ refused-month c.args.rules c.args.sheet.now (sym c.in_ok-check.ensures.answer) (sym (c.in_err-month.ensures.answer ∙ ap (λ (s : Sheet). first_refusal (month_rules s)) same))

pub returns : goal.returns
returns c =
    let m = c.in_ok-month.month in
    let same : sheet_of c.in_ok-check.field-0.bytes.now ≡ sheet_of c.args.sheet.now = ap (λ (b : Bor (List ℕ)). sheet_of b.now) c.in_ok-check.ensures.sheet in
    let own : sheet_of_month m ≡ sheet_of c.args.sheet.now = ap (λ (b : Bor (List ℕ)). sheet_of b.now) c.in_ok-month.ensures.month.1 ∙ same in
    surveys c.args.rules c.args.sheet.now (sym c.in_ok-check.ensures.answer) (sym (c.in_ok-month.ensures.answer ∙ ap (λ (s : Sheet). first_refusal (month_rules s)) same))
    (ap (λ (t : Totals). t.area) m.basis.summed ∙ ap total_area own)
    (c.heat_parts.ensures.common ∙ ap₂ (λ (r : RuleSet) (s : Sheet). (heat_parts whole_wh r s).common) c.in_ok-month.ensures.month.0 own)

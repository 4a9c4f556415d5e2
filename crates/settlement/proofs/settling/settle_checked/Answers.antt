use mathlib.Core.Path.{◌≡◌, refl, sym, ap, ◌∙◌}
use mathlib.Core.List.{List}
use Prim.Native.Nat.{ℕ, ◌*◌}
use Rattle.std.specs.Prelude.{Ok}
use Rattle.std.proofs.Common.{Bor}
use Rattle.sheet.specs.Layout.{Sheet, sheet_of}
use Rattle.sheet.proofs.Rules.{handed}
use Rattle.month.specs.Month.{bill_cents, statement_of}
use Rattle.weights.specs.Inner.Months.{sheet_of_month}
use Rattle.settlement.proofs.Answers.{refused-month, wrong_length, written}
use Rattle.settlement.proofs.Charging.{own-charges, own_statement}
use Rattle.settlement.proofs.settling.settle_checked.Goals as goal

pub returns-in_err-month : goal.returns-in_err-month
returns-in_err-month c =
    let a = c.args in
    let e = handed c.from_residual.result c.in_err-month.field-0.0 c.from_residual.ensures.1 in
    let r = refused-month a.rules (sheet_of a.sheet.bytes.now) a.statement.now c.from_residual.result (e ∙ c.in_err-month.ensures.answer) _ e in
    record { value = r.0; statement_after = r.1 }

pub returns-then-statement-unit_count : goal.returns-then-statement-unit_count
returns-then-statement-unit_count c =
    let a = c.args in
    let r = wrong_length a.rules (sheet_of a.sheet.bytes.now) a.statement.now (Ok tt) c.in_ok-month.ensures.answer refl _ c.unit_count.ensures.0 c.if-statement-unit_count.true in
    record { value = r.0; statement_after = r.1 }

pub write_statement-requires : goal.write_statement-requires
write_statement-requires c =
    let m = c.in_ok-month.month in
    let same : sheet_of_month m ≡ sheet_of c.args.sheet.bytes.now = ap (λ (b : Bor (List ℕ)). sheet_of b.now) c.in_ok-month.ensures.month.1 in (
      own-charges m c.heat_parts-parts.ensures (c.bill_cents.ensures.0 ∙ ap bill_cents (sym same)),
      c.if-statement-unit_count.false ∙ ap (λ (n : ℕ). 8 * n) (c.unit_count.ensures.0 ∙ ap (λ (s : Sheet). s.unit_count) (sym same)),
    )

pub returns : goal.returns
returns c =
    let a = c.args in
    let m = c.in_ok-month.month in
    let w = c.write_statement in
    let same : sheet_of_month m ≡ sheet_of a.sheet.bytes.now = ap (λ (b : Bor (List ℕ)). sheet_of b.now) c.in_ok-month.ensures.month.1 in
    let statement = w.ensures ∙ own_statement c.in_ok-month.ensures.month.0 c.heat_parts-parts.ensures (c.bill_cents.ensures.0 ∙ ap bill_cents (sym same)) ∙ ap (statement_of a.rules) same in
    let r = written a.rules (sheet_of a.sheet.bytes.now) a.statement.now (Ok tt) c.in_ok-month.ensures.answer refl _ c.unit_count.ensures.0 c.if-statement-unit_count.false w.new.statement statement in
    record { value = r.0; statement_after = r.1 }

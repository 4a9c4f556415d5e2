-- 1 to 7 first.
use mathlib.Core.Path.{refl, sym, ap}
use mathlib.Core.List.{List}
use Prim.Native.Nat.{ℕ}
use denote.Bor.{Bor}
use Rattle.std.specs.Prelude.{Err}
use Rattle.sheet.specs.RuleSets.{newest}
use Rattle.sheet.proofs.Rules.{handed_on}
use Rattle.charges.proofs.Answers.{refused-sheet, passed-sheet}
use Rattle.charges.proofs.charging.fixed_charges.Goals as goal

pub returns-in_err-check : goal.returns-in_err-check
returns-in_err-check c =
    let a = c.args in
    let r = c.in_err-check.field-0.0 in
    let is = refused-sheet newest a.sheet.now a.model a.amounts a.charges.now c.from_residual.result r (handed_on _ (Err r) r c.from_residual.ensures.1 refl) (sym c.in_err-check.ensures.answer) in
    record { value = is.0; charges_after = is.1 }

pub returns : goal.returns
returns c =
    let a = c.args in
    let o = c.charge_checked in
    let is = passed-sheet newest a.sheet.now a.model a.amounts a.charges.now (sym c.in_ok-check.ensures.answer) c.in_ok-check.field-0.bytes.now (ap (λ (b : Bor (List ℕ)). b.now) c.in_ok-check.ensures.sheet) o.result _ o.ensures.value o.ensures.charges_after in
    record { value = is.0; charges_after = is.1 }

use mathlib.Core.Path.{refl, sym, ap, ◌∙◌}
use native.Mathlib.Omega.{arith}
use Rattle.std.specs.Prelude.{Err}
use Rattle.sheet.proofs.Rules.{handed}
use Rattle.sheet.proofs.Walk.{header-more, header_fault, header-end}
use Rattle.sheet.proofs.header.check_header.Goals as goal

pub returns-in_err-check_field : goal.returns-in_err-check_field
returns-in_err-check_field c =
    let no = c.in_err-check_field.ensures in
    handed _ _ c.from_residual.ensures.1 ∙ ap (λ r. Err r) no.1
    ∙ sym (sym c.loop-k.invariant ∙ header_fault c.args.s.now _ c.loop-k.k _ c.header_ranges-ranges.ensures refl (omega arith) no.0)

pub loop-k-preserved : goal.loop-k-preserved
loop-k-preserved c =
    header-more c.args.s.now _ c.loop-k.k _ c.header_ranges-ranges.ensures refl (omega arith) c.in_ok-check_field.ensures ∙ c.loop-k.invariant

pub returns-in_err-check_field-2 : goal.returns-in_err-check_field-2
returns-in_err-check_field-2 c =
    let no = c.in_err-check_field-2.ensures in
    handed _ _ c.from_residual-in_err-check_field-2.ensures.1 ∙ ap (λ r. Err r) no.1
    ∙ sym (sym c.loop-k-2.invariant ∙ header_fault c.args.s.now _ c.loop-k-2.k _ c.header_ranges-ranges.ensures refl (omega arith) no.0)

pub loop-k-2-preserved : goal.loop-k-2-preserved
loop-k-2-preserved c =
    header-more c.args.s.now _ c.loop-k-2.k _ c.header_ranges-ranges.ensures refl (omega arith) c.in_ok-check_field-2.ensures ∙ c.loop-k-2.invariant

pub returns : goal.returns
returns c = sym (sym c.loop-k-2.invariant ∙ header-end c.args.s.now c.loop-k-2.k (omega arith))

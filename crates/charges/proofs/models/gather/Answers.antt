use mathlib.Core.Path.{sym, ap, ◌∙◌}
use mathlib.Core.List.{map}
use native.Mathlib.Omega.{arith}
use lib.Seq.{take_all}
use Rattle.sheet.specs.declared.rows.Field.{Field}
use Rattle.sheet.specs.Layout.{UnitRow, sheet_of}
use Rattle.sheet.specs.Inner.Fields.{row_field}
use Rattle.charges.proofs.Weights.{next_weight, weights_are}
use Rattle.charges.proofs.models.gather.Goals as goal

pub loop-i-preserved : goal.loop-i-preserved
loop-i-preserved c =
    let l = c.loop-i in
    let field = c.field_by-field.result in
    next_weight (λ u. row_field u field) c.args.sheet.bytes.now l.weights l.i c.from.result (omega arith) (omega arith)
    (c.from.ensures ∙ c.field.ensures ∙ ap (λ (u : UnitRow). row_field u field) c.row.ensures.unit) l.invariant

pub returns : goal.returns
returns c =
    let s = sheet_of c.args.sheet.bytes.now in
    let l = c.loop-i in
    let field = c.field_by-field in
    sym (take_all l.i l.weights (omega arith))
    ∙ l.invariant
    ∙ ap (map (λ (u : UnitRow). row_field u field.result)) (take_all l.i s.units (omega (arith, c.args.sheet.fits.units_length)))
    ∙ ap (λ (f : Field). map (λ (u : UnitRow). row_field u f) s.units) field.ensures
    ∙ weights_are c.args.model s

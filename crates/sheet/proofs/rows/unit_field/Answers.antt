use mathlib.Core.Path.{sym, ap, ◌∙◌}
use native.Mathlib.Omega.{arith}
use Rattle.sheet.specs.Layout.{UnitRow}
use Rattle.sheet.specs.Inner.Fields.{row_field}
use Rattle.sheet.proofs.Units.{unit-at}
use Rattle.sheet.proofs.rows.unit_field.Goals as goal

pub returns : goal.returns
returns c =
    let a = c.args in
    c.field_at.ensures ∙ sym (ap (λ (u : UnitRow). row_field u a.field) (unit-at _ a.i (omega arith)))

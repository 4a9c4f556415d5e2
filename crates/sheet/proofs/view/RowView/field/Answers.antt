use mathlib.Core.Path.{sym, ap, ◌∙◌}
use Prim.Native.Nat.{ℕ}
use native.Mathlib.Omega.{arith}
use Rattle.sheet.specs.Layout.{UnitRow}
use Rattle.sheet.specs.Inner.Fields.{row_field, unit_row_at, row_place}
use Rattle.sheet.proofs.Units.{unit-at}
use Rattle.sheet.proofs.view.RowView.field.Goals as goal

pub field_at-requires : goal.field_at-requires
field_at-requires c =
    let row = c.args.self in
    omega (arith, row.aligned, row.inside, row.sheet.fits.byte_count)

pub returns : goal.returns
returns c =
    let row = c.args.self in
    let bytes = row.sheet.bytes.now in
    c.field_at.ensures
    ∙ ap (λ (at : ℕ). row_field (unit_row_at bytes at) c.args.field) row.aligned
    ∙ sym (ap (λ (u : UnitRow). row_field u c.args.field) (unit-at bytes (row_place row.start) row.inside))

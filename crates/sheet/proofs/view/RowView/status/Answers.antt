use native.Mathlib.Omega.{arith}
use Rattle.sheet.specs.Inner.Fields.{row_place}
use Rattle.sheet.proofs.Views.{unit_fits, known}
use Rattle.sheet.proofs.view.RowView.status.Goals as goal

pub unwrap-requires : goal.unwrap-requires
unwrap-requires c =
    let row = c.args.self in
    let u = unit_fits _ row.sheet.fits (row_place row.start) row.inside in
    known _ _ c.try_from.result c.try_from.ensures (λ e none. omega (arith, c.field.ensures, u.status, none.1))

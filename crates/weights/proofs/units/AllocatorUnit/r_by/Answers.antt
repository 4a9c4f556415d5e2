use mathlib.Core.Path.{refl, ap}
use native.Mathlib.Omega.{arith}
use Rattle.weights.specs.declared.totals.Totals.{Totals}
use Rattle.weights.proofs.Ready.{row_fits, unit_summed, unit_impulses}
use Rattle.weights.proofs.units.AllocatorUnit.r_by.Goals as goal

pub mixed-requires : goal.mixed-requires
mixed-requires c =
    let a = c.args.self in
    let u = a.unit in (
      omega (arith, c.from.ensures, c.header.ensures, u.row.sheet.fits.header.base_percent_high),
      omega (arith, c.from-2.ensures, c.field.ensures, (row_fits u.row).impulses a.allocators),
      c.requires.1,
      c.requires.0,
      unit_impulses u a.allocators,
    )

pub returns : goal.returns
returns c =
    (rw (c.mixed.ensures.0, c.from.ensures, c.header.ensures, c.from-2.ensures, c.field.ensures, ap (λ (t : Totals). t.readings) (unit_summed c.args.self.unit)) refl, c.mixed.ensures.1)

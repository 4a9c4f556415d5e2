use mathlib.Core.Path.{refl, ap}
use Prim.Native.Nat.{◌≤◌}
use native.Mathlib.Omega.{arith}
use Rattle.month.specs.Weights.{area_weight}
use Rattle.weights.specs.declared.totals.Totals.{Totals}
use Rattle.weights.proofs.Rows.{two_le}
use Rattle.weights.proofs.Ready.{row_fits, unit_summed, unit_impulses, within}
use Rattle.weights.proofs.units.AllocatorUnit.area_weight.Goals as goal

pub r_by-r-requires : goal.r_by-r-requires
r_by-r-requires c =
    let u = c.args.self.unit in
    (omega (arith, c.from-area.ensures, c.field.ensures, (row_fits u.row).heated_area), (within u.basis.now).readarea)

pub overflow_mul-area : goal.overflow_mul-area
overflow_mul-area c =
    let a = c.args.self in
    let h : c.from-area.result ≤ 10000 = omega (arith, c.from-area.ensures, c.field.ensures, (row_fits a.unit.row).heated_area) in
    omega (arith, two_le h (unit_impulses a.unit a.allocators))

pub limited-requires : goal.limited-requires
limited-requires c =
    let a = c.args.self in
    let h : c.from-area.result ≤ 10000 = omega (arith, c.from-area.ensures, c.field.ensures, (row_fits a.unit.row).heated_area) in
    (two_le h (unit_impulses a.unit a.allocators), c.r_by-r.ensures.1)

pub overflow_mul-result : goal.overflow_mul-result
overflow_mul-result c =
    let k : c.from-factor.result ≤ 1000 = omega (arith, c.from-factor.ensures, c.field-2.ensures, (row_fits c.args.self.unit.row).location_factor) in
    omega (arith, two_le c.limited.ensures.1 k)

pub returns : goal.returns
unfolding area_weight
returns c =
    let t = unit_summed c.args.self.unit in
    rw (c.limited.ensures.0, c.r_by-r.ensures.0, c.from-area.ensures, c.field.ensures, c.from-factor.ensures, c.field-2.ensures, ap (λ (t : Totals). t.readarea) t, ap (λ (t : Totals). t.readings) t) refl

use mathlib.Core.Path.{refl, sym, ap, ◌∙◌}
use mathlib.Core.Bool.{◌&&◌}
use Prim.Native.Nat.{ℕ, ◌≤◌}
use native.Mathlib.Omega.{arith}
use lib.Dec.{ltb}
use Rattle.sheet.specs.RuleSets.{limits_risers}
use Rattle.month.specs.Weights.{surface_weight}
use Rattle.weights.specs.declared.totals.Totals.{Totals}
use Rattle.weights.proofs.Rows.{two_le}
use Rattle.weights.proofs.Ready.{row_fits, unit_summed, unit_impulses, within}
use Rattle.weights.proofs.units.AllocatorUnit.surface_weight.Goals.{After-r_by-r}
use Rattle.weights.proofs.units.AllocatorUnit.surface_weight.Goals as goal

pub r_by-r-requires : goal.r_by-r-requires
r_by-r-requires c =
    let u = c.args.self.unit in
    (omega (arith, c.from-surface.ensures, c.field.ensures, (row_fits u.row).riser_surface), (within u.basis.now).surface)

pub overflow_mul-surface : goal.overflow_mul-surface
overflow_mul-surface c =
    let a = c.args.self in
    let h : c.from-surface.result ≤ 10000 = omega (arith, c.from-surface.ensures, c.field.ensures, (row_fits a.unit.row).riser_surface) in
    omega (arith, two_le h (unit_impulses a.unit a.allocators))

pub limited-requires : goal.limited-requires
limited-requires c =
    let a = c.args.self in
    let h : c.from-surface.result ≤ 10000 = omega (arith, c.from-surface.ensures, c.field.ensures, (row_fits a.unit.row).riser_surface) in
    (two_le h (unit_impulses a.unit a.allocators), c.r_by-r.ensures.1)

factor_high : (c : After-r_by-r) → c.from-factor.result ≤ 1000
factor_high c = omega (arith, c.from-factor.ensures, c.field-2.ensures, (row_fits c.args.self.unit.row).location_factor)

pub overflow_mul-result : goal.overflow_mul-result
overflow_mul-result c = omega (arith, two_le c.r_by-r.ensures.1 (factor_high (goal.at.overflow_mul-result c).After-r_by-r))

pub overflow_mul-result-2 : goal.overflow_mul-result-2
overflow_mul-result-2 c = omega (arith, two_le c.limited.ensures.1 (factor_high (goal.at.overflow_mul-result-2 c).After-r_by-r))

pub returns-then-not-riser_limits : goal.returns-then-not-riser_limits
unfolding surface_weight
returns-then-not-riser_limits c =
    let t = unit_summed c.args.self.unit in
    let own = c.from-surface.ensures ∙ c.field.ensures in
    let free = ap (λ (s : ℕ). limits_risers c.args.self.unit.basis.now.rules && ltb 0 s) (sym own) ∙ sym c.riser_limits.ensures ∙ c.if-not-riser_limits.true in
    rw (free, c.r_by-r.ensures.0, own, c.from-factor.ensures, c.field-2.ensures, ap (λ (t : Totals). t.surface) t) refl

pub returns : goal.returns
unfolding surface_weight
returns c =
    let t = unit_summed c.args.self.unit in
    let own = c.from-surface.ensures ∙ c.field.ensures in
    let free = ap (λ (s : ℕ). limits_risers c.args.self.unit.basis.now.rules && ltb 0 s) (sym own) ∙ sym c.riser_limits.ensures ∙ c.if-not-riser_limits.false in
    rw (free, c.limited.ensures.0, c.r_by-r.ensures.0, own, c.from-factor.ensures, c.field-2.ensures, ap (λ (t : Totals). t.surface) t, ap (λ (t : Totals). t.readings) t) refl

use mathlib.Core.Path.{sym, ◌∙◌}
use Prim.Native.Nat.{◌*◌, ◌≤◌}
use native.Mathlib.Omega.{arith}
use Rattle.month.specs.Weights.{unread_weight}
use Rattle.month.proofs.Bounds.{three_le}
use Rattle.weights.proofs.Ready.{row_fits}
use Rattle.weights.proofs.units.unread_weight.Goals.{After-from}
use Rattle.weights.proofs.units.unread_weight.Goals as goal

product : (c : After-from) → c.from-p.result * c.from.result * c.from-factor.result ≤ 350000000
product c =
    let row = c.args.row in
    let u = row_fits row in
    let p : c.from-p.result ≤ 10000 = omega (arith, c.field.ensures, u.heated_area) in
    let k : c.from.result ≤ 1000 = omega (arith, c.field-then-has_no_device.ensures, u.location_factor) in
    let f : c.from-factor.result ≤ 35 = omega (arith, c.header.ensures, row.sheet.fits.header.unmetered_factor_high) in
    omega (arith, three_le p k f)

pub overflow_mul-result-then-has_no_device : goal.overflow_mul-result-then-has_no_device
overflow_mul-result-then-has_no_device c = omega (arith, product c)

pub returns-then-has_no_device : goal.returns-then-has_no_device
unfolding unread_weight
returns-then-has_no_device c =
    (rw (sym c.has_no_device.ensures ∙ c.if-has_no_device.true, c.from-p.ensures, c.field.ensures, c.from.ensures, c.field-then-has_no_device.ensures, c.from-factor.ensures, c.header.ensures), product c)

pub returns : goal.returns
unfolding unread_weight
returns c =
    (rw (sym c.has_no_device.ensures ∙ c.if-has_no_device.false, c.from-p.ensures, c.field.ensures), omega (arith, c.from-p.ensures, c.field.ensures, (row_fits c.args.row).heated_area))

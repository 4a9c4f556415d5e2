use native.Mathlib.Omega.{arith}
use Rattle.sheet.specs.Layout.{sheet_of}
use Rattle.month.proofs.Accepted.{fits-checked}
use Rattle.month.proofs.Bounds.{sum_bounds}
use Rattle.weights.proofs.hot_water.all_readings.Goals as goal

pub returns : goal.returns
unfolding sheet_of
returns c =
    let b = (sum_bounds _ (fits-checked c.args.sheet.fits)).summer-readings in
    (omega arith, omega (arith, b))

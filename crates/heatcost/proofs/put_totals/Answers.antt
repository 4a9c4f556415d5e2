-- `put_totals` meets its contract.
use mathlib.Core.Path.{ap}
use native.Mathlib.Omega.{arith}
use lib.ListN.{length}
use Rattle.heatcost.proofs.YearList.{front_and_rest}
use Rattle.heatcost.proofs.put_totals.Goals as goal

pub returns : goal.returns
returns c =
    let a = c.args in
    rw (c.from.ensures, c.copy_from_slice.ensures.after) (front_and_rest a.year.now.k a.year.now.sums a.totals.now (omega (arith, c.copy_from_slice.ensures.len, ap length c.copy_from_slice.ensures.after)))

use mathlib.Core.Path.{ap}
use mathlib.Core.Bool.{◌&&◌}
use Prim.Native.Nat.{◌*◌}
use native.Mathlib.Omega.{arith}
use lib.Dec.{ltb}
use Rattle.sheet.specs.Layout.{sheet_of}
use Rattle.month.specs.Weights.{has_pool}
use Rattle.weights.specs.declared.totals.Totals.{Totals}
use Rattle.weights.proofs.Ready.{within}
use Rattle.weights.proofs.refusals.pool_exceeded.Goals as goal

pub overflow_mul-result : goal.overflow_mul-result
overflow_mul-result c = omega (arith, (within c.args.basis.now).area)

pub returns : goal.returns
unfolding has_pool
returns c =
    let b = c.args.basis.now in
    rw (c.has_readings.ensures, c.model.ensures, c.all_metered.ensures) (ap (λ (t : Totals). has_pool (sheet_of b.sheet.bytes.now) && ltb (10000 * t.area) t.unread) b.summed)

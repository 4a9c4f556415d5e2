-- The highest power of ten in the number.
use native.Mathlib.Omega.{arith}
use Rattle.printing.proofs.Decimals.{decimal-long}
use Rattle.printing.proofs.sink.decimal_len.Goals as goal

pub returns : goal.returns
returns c =
    let l = c.ilog10.ensures in
    omega (arith, decimal-long c.ilog10.result c.args.x l.bound (omega (arith, l.power_le, c.max.ensures)) (omega (arith, l.next_power_gt, c.max.ensures)))

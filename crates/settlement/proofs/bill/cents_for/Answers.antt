-- A reading and a price within their limits.
use Prim.Native.Nat.{◌*◌, ◌≤◌}
use mathlib.Core.Path.{refl}
use native.Mathlib.Omega.{arith}
use native.Mathlib.Nat.{mul-le-mul_left, mul-le-mul_right}
use Rattle.settlement.proofs.bill.cents_for.Goals as goal
use Rattle.settlement.proofs.bill.cents_for.Goals.{Start}

product : (c : Start) → c.args.reading * c.args.price ≤ 400000000000000
product c = omega (arith, mul-le-mul_right c.args.price c.requires.0, mul-le-mul_left 4000000000 c.requires.1)

pub overflow_mul-result : goal.overflow_mul-result
overflow_mul-result c = omega (arith, product c)

pub overflow_add-result : goal.overflow_add-result
overflow_add-result c = omega (arith, product c)

pub returns : goal.returns
returns c = (refl, omega (arith, product c))

-- `mixed` meets its contract: each factor is bounded.
use mathlib.Core.Path.{refl}
use Prim.Native.Nat.{◌-◌, ◌≤◌}
use native.Mathlib.Omega.{arith}
use Rattle.month.proofs.Bounds.{three_le}
use Rattle.weights.proofs.Rows.{two_le}
use Rattle.weights.proofs.units.mixed.Goals as goal

pub overflow_mul-result : goal.overflow_mul-result
overflow_mul-result c = let k : 100 - c.args.v ≤ 100 = omega arith in omega (arith, two_le k c.requires.1)

pub overflow_mul-result-2 : goal.overflow_mul-result-2
overflow_mul-result-2 c = let k : 100 - c.args.v ≤ 100 = omega arith in omega (arith, three_le k c.requires.1 c.requires.2)

pub overflow_mul-result-3 : goal.overflow_mul-result-3
overflow_mul-result-3 c = omega (arith, two_le c.requires.0 c.requires.3)

pub overflow_mul-result-4 : goal.overflow_mul-result-4
overflow_mul-result-4 c = omega (arith, three_le c.requires.0 c.requires.3 c.requires.4)

pub overflow_add-result : goal.overflow_add-result
overflow_add-result c = let k : 100 - c.args.v ≤ 100 = omega arith in omega (arith, three_le k c.requires.1 c.requires.2, three_le c.requires.0 c.requires.3 c.requires.4)

pub returns : goal.returns
returns c = let k : 100 - c.args.v ≤ 100 = omega arith in (refl, omega (arith, three_le k c.requires.1 c.requires.2, three_le c.requires.0 c.requires.3 c.requires.4))

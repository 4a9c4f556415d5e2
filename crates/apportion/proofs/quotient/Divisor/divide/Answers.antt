-- `divide` meets its contract: both shifted numbers fit, and the shift leaves the quotient.
use mathlib.Core.Path.{◌≡◌}
use Prim.Native.Nat.{◌*◌, ◌%◌, ◌^◌, ◌≤◌}
use native.Mathlib.Nat.{mul-le-mul_right, mod-eq_of_lt}
use native.Mathlib.Omega.{arith}
use lib.Pow.{pow_pos}
use Rattle.apportion.proofs.Wide.{scaled}
use Rattle.apportion.proofs.quotient.Divisor.divide.Goals as goal

pub returns : goal.returns
returns c =
    let s = c.args.self in
    let p = 2 ^ s.shift in
    let w_le : c.args.w * p ≤ s.whole * p = mul-le-mul_right p c.requires.1 in
    let ew : c.args.w * p % 2 ^ 64 ≡ c.args.w * p = mod-eq_of_lt (omega arith) in
    let ed : s.whole * p % 2 ^ 64 ≡ s.whole * p = mod-eq_of_lt (omega arith) in
    let e = rw (ew, ed) at c.divided-shifted.ensures in
    scaled c.args.t c.args.w s.whole p c.divided-shifted.result.quotient c.divided-shifted.result.remainder (pow_pos s.shift) e.0 e.1

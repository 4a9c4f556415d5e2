-- `divided` meets its contract: q times the divisor and r make the product, and no turn raises q + r, which fits.
use mathlib.Core.Path.{◌≡◌}
use Prim.Native.Nat.{◌+◌, ◌*◌, ◌^◌, ◌<◌}
use Rattle.apportion.proofs.quotient.divided.Given as goal

abbrev pub invariant-loop-r : goal.invariant-loop-r
invariant-loop-r l = (l.q * l.whole + l.r ≡ l.t * l.w) × (l.q + l.r < 2 ^ 64)

abbrev pub decreases-loop-r : goal.decreases-loop-r
decreases-loop-r l = l.r

-- `narrow` meets its contract: at least `left` keys reach the bracket's lower end, and fewer its upper end.
use mathlib.Core.Path.{◌≡◌, ap}
use Prim.Native.Nat.{ℕ, suc, ◌-◌}
use native.Mathlib.Omega.{arith}
use Rattle.apportion.specs.Shares.{at_least}
use Rattle.apportion.proofs.Counting.{antitone, under}
use Rattle.apportion.proofs.narrowing.Leftover.narrow.Goals as goal

pub returns-then-c-self-clause-cuts : goal.returns-then-c-self-clause-cuts
returns-then-c-self-clause-cuts c =
    let m = c.guess-m.result in
    let keys = c.args.self.now.keys.now in
    let e : suc (m - 1) ≡ m = omega arith in
    let same = ap (at_least m) c.loop-self.invariant.0 in
    omega (arith, c.count_around-c.ensures.is-count, same, ap (λ (x : ℕ). at_least x keys) e, antitone (m - 1) m keys (omega arith))

pub returns-clause-cuts : goal.returns-clause-cuts
returns-clause-cuts c =
    let s = c.loop-self.self in
    let keys = c.args.self.now.keys.now in
    let h = under s.lo s.hi s.keys.now in
    let e : suc s.lo ≡ s.hi = omega arith in
    omega (arith, ap (λ (x : ℕ). at_least x keys) e, ap (at_least s.lo) c.loop-self.invariant.0, ap (at_least s.hi) c.loop-self.invariant.0)

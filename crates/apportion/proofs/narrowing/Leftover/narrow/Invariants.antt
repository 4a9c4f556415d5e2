-- `narrow` meets its contract: the bracket lies in the first one, and shrinks with each turn.
use mathlib.Core.Path.{◌≡◌}
use Prim.Native.Nat.{◌+◌, ◌-◌, ◌≤◌}
use Rattle.apportion.proofs.narrowing.Leftover.narrow.Given as goal

abbrev pub invariant-loop-self : goal.invariant-loop-self
invariant-loop-self l =
    (l.self.keys.now ≡ l.initial.self.keys.now) × (l.self.left ≡ l.initial.self.left)
    × (l.initial.self.lo ≤ l.self.lo) × (l.self.hi ≤ l.initial.self.hi)
    × (l.turn + (l.self.hi - l.self.lo) ≤ l.initial.self.hi - l.initial.self.lo)

abbrev pub decreases-loop-self : goal.decreases-loop-self
decreases-loop-self l = l.self.hi - l.self.lo

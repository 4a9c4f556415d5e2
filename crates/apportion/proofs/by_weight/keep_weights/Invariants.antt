-- Invariant: the keys passed are replaced by weights, of which the largest is known and the number above 0; the others are as they were.
use mathlib.Core.Path.{◌≡◌}
use lib.ListN.{length, take}
use Rattle.apportion.specs.Shares.{at_least}
use Rattle.apportion.specs.Inner.Selection.{largest, weight_at}
use Rattle.apportion.proofs.Replacing.{Replaced}
use Rattle.apportion.proofs.by_weight.keep_weights.Given as goal

abbrev pub invariant-loop-i : goal.invariant-loop-i
invariant-loop-i l =
    (length l.keys ≡ length l.ws)
    × Replaced (weight_at l.theta) l.fn.keys l.ws l.i l.keys
    × (l.kept.largest ≡ largest (take l.i l.keys))
    × (l.kept.positive ≡ at_least 1 (take l.i l.keys))

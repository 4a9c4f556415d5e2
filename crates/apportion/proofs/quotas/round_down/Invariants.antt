-- `round_down` meets its contract: what is written, summed, compared and counted of the weights so far.
use mathlib.Core.Path.{◌≡◌}
use lib.ListN.{length, take}
use Rattle.apportion.specs.Inner.Selection.{RoundedDown}
use Rattle.apportion.proofs.quotas.round_down.Given as goal

abbrev pub invariant-loop-i : goal.invariant-loop-i
invariant-loop-i l =
    (length l.rests ≡ length l.ws)
    × (length l.out ≡ length l.ws)
    × RoundedDown l.total l.divisor.whole (take l.i l.ws) l.down.sum l.down.largest l.down.positive (take l.i l.rests) (take l.i l.out)

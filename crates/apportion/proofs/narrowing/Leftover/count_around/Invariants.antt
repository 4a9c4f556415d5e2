-- `count_around` meets its contract: the count of the keys so far.
use lib.ListN.{take}
use Rattle.apportion.specs.Inner.Selection.{Counted}
use Rattle.apportion.proofs.narrowing.Leftover.count_around.Given as goal

abbrev pub invariant-loop-k : goal.invariant-loop-k
invariant-loop-k l = Counted l.m l.self.lo l.self.hi l.c.count l.c.below l.c.above (take l.k-index l.self.keys.now)

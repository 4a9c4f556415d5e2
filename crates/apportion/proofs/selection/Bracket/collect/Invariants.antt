-- `collect` meets its contract: the keys so far that lie in the bracket.
use mathlib.Core.Path.{◌≡◌}
use lib.ListN.{length, take}
use Rattle.apportion.specs.Inner.Selection.{Collected}
use Rattle.apportion.proofs.selection.Bracket.collect.Given as goal

abbrev pub invariant-loop-k : goal.invariant-loop-k
invariant-loop-k l = (length l.near ≡ 128) × Collected l.self.lo l.self.hi l.above l.within l.near (take l.k-index l.keys)

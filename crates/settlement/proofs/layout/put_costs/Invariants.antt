-- Invariant: the numbers of the first i units are written.
use Prim.Native.Nat.{◌*◌}
use lib.ListN.{get_or}
use Rattle.settlement.specs.Inner.Numbers.{Put, cost_place}
use Rattle.settlement.proofs.layout.put_costs.Given as goal

abbrev pub invariant-loop-i : goal.invariant-loop-i
invariant-loop-i l = Put cost_place (4 * l.i) (λ k. get_or l.cents k 0) l.initial.statement l.statement

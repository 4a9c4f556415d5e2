-- Invariant: the numbers of the first i units are written.
use Prim.Native.Nat.{◌+◌, ◌*◌, ◌/◌, ◌%◌}
use lib.ListN.{get_or}
use Rattle.settlement.specs.Inner.Numbers.{Put}
use Rattle.settlement.proofs.layout.energy_weights.Given as goal

abbrev pub invariant-loop-i : goal.invariant-loop-i
invariant-loop-i l = Put (λ k. k) (4 * l.i) (λ k. get_or l.statement (8 * (k / 4) + k % 4) 0) l.initial.weights l.weights

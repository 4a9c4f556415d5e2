-- Invariant: the numbers of the first i units are written.
use Prim.Native.Nat.{◌*◌}
use lib.ListN.{get_or}
use Rattle.month.specs.Steps.{whole_wh, unit_by_unit}
use Rattle.settlement.specs.Inner.Numbers.{Put, energy_place}
use Rattle.settlement.proofs.layout.put_energies.Given as goal

abbrev pub invariant-loop-i : goal.invariant-loop-i
invariant-loop-i l = Put energy_place (4 * l.i) (λ k. get_or (unit_by_unit whole_wh l.n l.a l.b l.c l.d) k 0) l.initial.statement l.statement

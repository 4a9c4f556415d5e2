-- Invariant: the numbers of the first i units are written.
use mathlib.Core.Path.{◌≡◌}
use Prim.Native.Nat.{◌*◌}
use lib.ListN.{length, get_or}
use Rattle.settlement.specs.Inner.Numbers.{Put}
use Rattle.charges.specs.Inner.Columns.{column_place}
use Rattle.charges.proofs.columns.put_column.Given as goal

abbrev pub invariant-loop-i : goal.invariant-loop-i
invariant-loop-i l = record { room : length l.charges ≡ 3 * length l.parts; written : Put (column_place l.column) l.i (λ k. get_or l.parts k 0) l.fn.charges l.charges }

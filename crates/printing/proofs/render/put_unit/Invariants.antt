-- Invariant: with the numbers that are left the sink has taken the line.
use mathlib.Core.List.{map}
use Prim.Native.Nat.{◌≤◌}
use lib.ListN.{length, drop}
use Rattle.printing.specs.Text.{decimal, further, line}
use Rattle.printing.proofs.render.put_unit.Given as goal

abbrev pub invariant-loop-number : goal.invariant-loop-number
invariant-loop-number g l =
    let left = further (map decimal (drop l.number-index l.numbers)) in
    record {
      room : length left ≤ g.S.Sink.left l.sink;
      whole : (end : _) → g.S.Sink.took l.sink left end → g.S.Sink.took l.fn.sink (line (decimal l.id) (map decimal l.numbers)) end;
    }

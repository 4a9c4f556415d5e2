-- Invariant: with the lines that are left the sink has taken all lines.
use mathlib.Core.Path.{◌≡◌}
use mathlib.Core.List.{map}
use Prim.Native.Nat.{◌*◌, ◌≤◌}
use lib.ListN.{length}
use Rattle.std.specs.Iterator.Adapters.{zip_first, zip_second}
use Rattle.std.specs.Slice.Iter.{chunks_exact_rest, chunks_exact_size}
use Rattle.sheet.specs.Inner.Rows.{rows_left}
use Rattle.printing.specs.Printed.{unit_lines}
use Rattle.printing.specs.Inner.Lines.{unit_lines_of}
use Rattle.printing.proofs.render.put_units.Given as goal

abbrev pub invariant-loop-row : goal.invariant-loop-row
invariant-loop-row g l =
    let units = rows_left (zip_first l.row-iterator) in
    let chunks = zip_second l.row-iterator in
    let left = unit_lines (map (λ u. u.id) units) (chunks_exact_rest chunks) in
    record {
      size : chunks_exact_size chunks ≡ 8;
      numbers : length (chunks_exact_rest chunks) ≡ 8 * length units;
      room : length left ≤ g.S.Sink.left l.sink;
      whole : (end : _) → g.S.Sink.took l.sink left end → g.S.Sink.took l.fn.sink (unit_lines_of l.month.sheet.bytes.now l.month.statement.now) end;
    }

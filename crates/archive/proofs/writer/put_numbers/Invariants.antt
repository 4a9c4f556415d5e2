-- Invariant: the first i numbers stand in the first 4 i bytes.
use mathlib.Core.Path.{◌≡◌}
use Prim.Native.Nat.{◌*◌}
use lib.ListN.{length, take}
use Rattle.sheet.specs.Layout.{in_bytes}
use Rattle.archive.proofs.writer.put_numbers.Given as goal

abbrev pub invariant-loop-i : goal.invariant-loop-i
invariant-loop-i l = record {
  long : length l.to ≡ 4 * length l.numbers;
  written : take (4 * l.i) l.to ≡ in_bytes (take l.i l.numbers);
}

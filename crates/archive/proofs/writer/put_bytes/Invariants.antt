use mathlib.Core.Path.{◌≡◌}
use lib.ListN.{take}
use Rattle.archive.proofs.writer.put_bytes.Given as goal

-- the bytes so far
abbrev pub invariant-loop-i : goal.invariant-loop-i
invariant-loop-i l = take l.i l.to ≡ take l.i l.bytes

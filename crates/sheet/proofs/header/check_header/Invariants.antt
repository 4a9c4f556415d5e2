use mathlib.Core.Path.{◌≡◌}
use Rattle.sheet.proofs.Walk.{header_from}
use Rattle.sheet.proofs.header.check_header.Given as goal

abbrev pub invariant-loop-k : goal.invariant-loop-k
invariant-loop-k l = header_from l.s l.k ≡ header_from l.s 0

abbrev pub invariant-loop-k-2 : goal.invariant-loop-k-2
invariant-loop-k-2 l = header_from l.s l.k ≡ header_from l.s 0

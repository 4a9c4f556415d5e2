use mathlib.Core.Path.{◌≡◌}
use Rattle.std.specs.Prelude.{Ok}
use Rattle.sheet.proofs.Walk.{rows_from, fields_from}
use Rattle.sheet.proofs.check.check_rows.Given as goal

-- nothing found yet, and what is left gives the answer
abbrev pub invariant-loop-k : goal.invariant-loop-k
invariant-loop-k l = (l.found ≡ Ok tt) × (fields_from l.s l.i l.k ≡ rows_from l.s 0)

abbrev pub invariant-rows : goal.invariant-rows
invariant-rows l = (l.found ≡ Ok tt) × (rows_from l.s l.i ≡ rows_from l.s 0)

-- Four stores in a row.
use native.Mathlib.Omega.{arith}
use lib.ListN.{length-set}
use Rattle.settlement.proofs.layout.put_four.Goals as goal

pub bounds-to-at-2 : goal.bounds-to-at-2
bounds-to-at-2 c = simp length-set (omega arith)

pub bounds-to-at-3 : goal.bounds-to-at-3
bounds-to-at-3 c = simp length-set (omega arith)

pub bounds-to-at-4 : goal.bounds-to-at-4
bounds-to-at-4 c = simp length-set (omega arith)

use lib.ListN.{length, take}
use Rattle.sheet.specs.Layout.{sheet_of}
use Rattle.weights.proofs.Sums.{Sums}
use Rattle.weights.proofs.totals.Totals.of_sheet.Given as goal

-- the sums of the units so far
abbrev pub invariant-loop-row : goal.invariant-loop-row
invariant-loop-row l = Sums (sheet_of l.sheet.bytes.now) (take (length l.yielded) (sheet_of l.sheet.bytes.now).units) l.t

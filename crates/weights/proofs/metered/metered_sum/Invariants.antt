use mathlib.Core.Path.{◌≡◌}
use lib.ListN.{length, take}
use Rattle.sheet.specs.Layout.{sheet_of}
use Rattle.sheet.specs.WattHours.{wh_in}
use Rattle.month.specs.Weights.{sum_of}
use Rattle.weights.proofs.metered.metered_sum.Given as goal

-- the sum of the first readings
abbrev pub invariant-loop-row : goal.invariant-loop-row
invariant-loop-row l = wh_in l.sum ≡ sum_of (λ u. u.reading) (take (length l.yielded) (sheet_of l.sheet.bytes.now).units)

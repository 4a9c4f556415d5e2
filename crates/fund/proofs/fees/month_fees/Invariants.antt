use mathlib.Core.Path.{◌≡◌}
use Prim.Native.Nat.{◌*◌, ◌≤◌}
use lib.ListN.{length, take}
use Rattle.sheet.specs.Layout.{sheet_of}
use Rattle.month.specs.Weights.{sum_of}
use Rattle.fund.specs.Inner.Fees.{unit_fee}
use Rattle.fund.proofs.fees.month_fees.Given as goal

-- the fees of the units so far
abbrev pub invariant-loop-row : goal.invariant-loop-row
invariant-loop-row l =
    let s = sheet_of l.sheet.bytes.now in
    (l.fees ≡ sum_of (unit_fee l.rate s) (take (length l.yielded) s.units)) × (l.fees ≤ 1000000 * length l.yielded)

-- The fees unit by unit. Assumes nothing.
use mathlib.Core.Path.{◌≡◌, sym}
use Prim.Native.Nat.{ℕ}
use Rattle.sheet.specs.Layout.{Sheet}
use Rattle.month.specs.Weights.{sum_of}
use Rattle.month.proofs.Accepted.{sum-those}
use Rattle.fund.specs.Fees.{pays, efficiency_fee, month_fees}
use Rattle.fund.specs.Inner.Fees.{unit_fee}

pub fees-by_unit : (rate : ℕ) (s : Sheet) → sum_of (unit_fee rate s) s.units ≡ month_fees rate s
unfolding month_fees
fees-by_unit rate s = sym (sum-those (pays s) (efficiency_fee rate) s.units)

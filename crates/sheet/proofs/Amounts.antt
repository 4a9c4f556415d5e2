-- Sums of amounts of Wh. Assumes nothing.
use mathlib.Core.Path.{◌≡◌}
use Prim.Native.Nat.{ℕ, ◌≤◌}
use borrow.Author.Tests.{le-leb}
use lib.Dec.{ltb}
use Rattle.sheet.specs.WattHours.{highest_wh, amount_of}
use Rattle.sheet.specs.Inner.Sums.{past_sum, wh_in_sum}

pub past_amount : (x limit : ℕ) → x ≤ highest_wh → past_sum (amount_of x) limit ≡ ltb limit x
past_amount x limit h = rw (le-leb x highest_wh h)

pub amount_number : (x : ℕ) → x ≤ highest_wh → wh_in_sum (amount_of x) ≡ x
amount_number x h = rw (le-leb x highest_wh h)

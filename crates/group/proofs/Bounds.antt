-- How large the numbers of a group grow, before 21 is tested. Assumes nothing.
use mathlib.Core.Path.{◌≡◌}
use mathlib.Core.List.{List, [], ◌∷◌, map}
use Prim.Native.Nat.{ℕ, zero, suc, ◌+◌, ◌*◌, ◌≤◌, ◌<◌}
use native.Mathlib.Omega.{arith}
use native.Mathlib.Nat.{mul-le-mul}
use lib.IntN.{ℤ, pos, negsuc, nat_abs}
use lib.ListN.{length}
use Rattle.apportion.specs.Shares.{sum}
use Rattle.sheet.specs.Tests.{Each}
use Rattle.sheet.specs.Layout.{Sheet}
use Rattle.month.specs.Weights.{total_area}
use Rattle.month.specs.Inner.Accepted.{AcceptedSheet}
use Rattle.month.proofs.Nearness.{up, down, parts_less}
use Rattle.month.proofs.Bounds.{sum_bounds}
use Rattle.group.specs.Group.{Group, difference, shared_price, shared_bill, group_units}
use Rattle.group.specs.Inner.Accepted.{CheckedGroup}

-- the difference by its two parts, one of them 0
pub difference_parts : (g : Group) → up (difference g) + sum (map (λ s. s.shared_meter) g.buildings) ≡ g.shared_reading + down (difference g)
unfolding difference
difference_parts g = omega (arith, parts_less (pos g.shared_reading) (pos (sum (map (λ s. s.shared_meter) g.buildings))))

pub size_le : (z : ℤ) (reading meters : ℕ) → up z + meters ≡ reading + down z → reading ≤ 48000000000 → meters ≤ 48000000000 → nat_abs z ≤ 48000000000
size_le (pos n) reading meters e p q = omega arith
size_le (negsuc n) reading meters e p q = omega arith

-- at most n buildings, each of which adds at most b
module _ (f : Sheet → ℕ) (b : ℕ) (le : (s : Sheet) → AcceptedSheet s → f s ≤ b) where
  sum-at_most : (n : ℕ) (ss : List Sheet) → Each AcceptedSheet ss → length ss ≤ n → sum (map f ss) ≤ n * b
  sum-at_most n [] a l = omega arith
  sum-at_most zero (s ∷ ss) a l = absurd (omega arith)
  sum-at_most (suc n) (s ∷ ss) a l = omega (arith, le s a.0, sum-at_most n ss a.1 (omega arith))

first-price : (ss : List Sheet) → 0 < length ss → Each AcceptedSheet ss → shared_price ss ≤ 100000
unfolding shared_price
first-price [] h a = absurd (omega arith)
first-price (s ∷ ss) h a = a.0.checked-sheet.header.price

module _ (g : Group) (c : CheckedGroup g) where
  over-all : (f : Sheet → ℕ) (b : ℕ) → ((s : Sheet) → AcceptedSheet s → f s ≤ b) → sum (map f g.buildings) ≤ 12 * b
  over-all f b le = sum-at_most f b le 12 g.buildings c.each c.count

  pub units_le : group_units g ≤ 1920
  unfolding group_units
  units_le = over-all (λ s. s.unit_count) 160 (λ s a. a.checked-sheet.header.unit_count)

  pub areas_le : sum (map total_area g.buildings) ≤ 19200000
  areas_le = over-all total_area 1600000 (λ s a. (sum_bounds s a.checked-sheet).total_area_lem)

  pub meters_le : sum (map (λ s. s.shared_meter) g.buildings) ≤ 48000000000
  meters_le = over-all (λ s. s.shared_meter) 4000000000 (λ s a. a.checked-sheet.header.shared_meter)

  -- a negative difference may pass 32 bits
  pub difference_le : nat_abs (difference g) ≤ 48000000000
  difference_le = size_le (difference g) g.shared_reading _ (difference_parts g) (omega (arith, c.reading)) meters_le

  pub price_le : shared_price g.buildings ≤ 100000
  price_le = first-price g.buildings c.some c.each

  pub bill_le : shared_bill g ≤ 400000000
  unfolding shared_bill
  bill_le =
      let product : g.shared_reading * shared_price g.buildings ≤ 400000000000000 = mul-le-mul c.reading price_le in
      omega arith

-- The tests of refusals 8 to 12 over the sums of a sheet. Assumes nothing.
use mathlib.Core.Path.{◌≡◌, refl, sym, ap, ◌∙◌}
use mathlib.Core.Bool.{◌&&◌}
use mathlib.Core.Logic.{inl, inr}
use mathlib.Core.List.{List, [], ◌∷◌, map}
use Prim.Native.Nat.compare
use Prim.Native.Nat.{ℕ, suc, ◌+◌, ◌≤◌, ◌<◌}
use native.Mathlib.Omega.{arith}
use borrow.Author.Tests.{ne_eqb, le-ltb, le-leb}
use lib.Dec.{ltb, eqb}
use lib.ListN.{length, take, length-take}
use Rattle.apportion.specs.Shares.{sum}
use Rattle.sheet.specs.Tests.{any, all}
use Rattle.sheet.specs.Layout.{UnitRow, Sheet, unit_row, sheet_of}
use Rattle.sheet.proofs.Fits.{each_at}
use Rattle.sheet.specs.Inner.Fields.{unit_of}
use Rattle.sheet.specs.Inner.Fits.{Fits, UnitFits}
use Rattle.sheet.proofs.Units.{units-next}
use Rattle.sheet.specs.declared.watt_hours.Wh.{Wh}
use Rattle.std.specs.Prelude.{Option, Some, None}
use Rattle.sheet.specs.WattHours.{highest_wh, wh_in, amount_of}
use Rattle.month.specs.Weights.{those, sum_of, is_read, all_metered, metered_sum}
use Rattle.month.specs.Month.{zero_water_divisor, zero_divisor, hot_water_wh}
use Rattle.month.proofs.Lists.{decided, sum-next, each_take}
use Rattle.month.proofs.Bounds.{those-fewer, sum-at_most}
use Rattle.weights.specs.Inner.Metered.{metered_heat}
use Rattle.weights.specs.Inner.Totals.{totals_in}
use Rattle.weights.specs.declared.totals.Totals.{Totals}

-- ---- 9
module _ (s : Sheet) (t : Totals) (of : t ≡ totals_in s) where
  pub water-divisor : any (eqb (t.class1 + t.class2) 0
      ∷ (ltb 0 t.class1 && eqb t.litres 0)
      ∷ (ltb 0 t.class2 && eqb t.persons2 0)
      ∷ (ltb 0 s.common_water_percent && eqb t.persons 0)
      ∷ []) ≡ zero_water_divisor s
  unfolding zero_water_divisor
  water-divisor = rw of

  pub divisor : any ((ltb 0 (hot_water_wh s) && zero_water_divisor s) ∷ (eqb s.model 1 && eqb t.load 0) ∷ (eqb s.model 4 && eqb t.surface 0) ∷ []) ≡ zero_divisor s
  unfolding zero_divisor
  divisor = rw of

-- ---- 11
-- as many read as there are
pub all_read : (us : List UnitRow) → eqb (length (those is_read us)) (length us) ≡ all (map is_read us)
unfolding all
all_read [] = refl
all_read (u ∷ us) = elim (decided (is_read u)) [
  | inl e ↦ rw (e, compare.suc-suc) (all_read us)
  | inr e ↦ rw e (ne_eqb (length (those is_read us)) (suc (length us)) (λ z. omega (arith, those-fewer is_read us)))
]

-- ---- C, which never goes over
pub amount_is : (x : ℕ) (w : Wh) → x ≤ highest_wh → amount_of x ≡ Some w → wh_in w ≡ x
amount_is x w h e =
    let f : ◌≡◌ {A = Option Wh} (Some (record { 0 = x })) (Some w) = sym (rw (le-leb x highest_wh h)) ∙ e in
    let g : ◌≡◌ {A = Wh} (record { 0 = x }) w = cc in
    sym (ap (λ (a : Wh). a.0) g)

pub some_amount : (x : ℕ) → x ≤ highest_wh → amount_of x ≡ None → ⊥
some_amount x h e =
    let f : ◌≡◌ {A = Option Wh} (Some (record { 0 = x })) None = sym (rw (le-leb x highest_wh h)) ∙ e in
    cc

pub past-metered : (s : Sheet) (limit : ℕ) → ltb limit (metered_heat s) ≡ (all_metered s && ltb limit (metered_sum s))
past-metered s limit = elim (decided (all_metered s)) [ inl e ↦ rw e | inr e ↦ rw e (le-ltb limit 0 (omega arith)) ]

pub metered_fits : (s : Sheet) → metered_sum s ≤ highest_wh → metered_heat s ≤ highest_wh
metered_fits s h = elim (decided (all_metered s)) [ inl e ↦ rw e h | inr e ↦ rw e (omega arith) ]

pub some_of : (w : Wh) → wh_in w ≤ highest_wh → Some w ≡ amount_of (wh_in w)
some_of w h = rw (le-leb (wh_in w) highest_wh h)

-- the first i readings
pub readings_fit : (bytes : List ℕ) → Fits 32 bytes → (i : ℕ) → sum_of (λ u. u.reading) (take i (sheet_of bytes).units) ≤ highest_wh
readings_fit bytes f i =
    let us = (sheet_of bytes).units in
    sum-at_most (UnitFits (sheet_of bytes)) (λ u. u.reading) 25000000 (λ u k. k.reading) 160 (take i us) (each_take (UnitFits (sheet_of bytes)) i us f.units)
    (omega (arith, length-take i us, f.units_length, f.header.unit_count))

pub one_reading_more : (bytes : List ℕ) (i : ℕ) → i < (sheet_of bytes).unit_count
    → sum_of (λ u. u.reading) (take (i + 1) (sheet_of bytes).units) ≡ sum_of (λ u. u.reading) (take i (sheet_of bytes).units) + (unit_of (sheet_of bytes) i).reading
one_reading_more bytes i h =
    ap (sum_of (λ u. u.reading)) (units-next bytes i h) ∙ sum-next (λ u. u.reading) (take i (sheet_of bytes).units) (unit_of (sheet_of bytes) i)

module _ (bytes : List ℕ) (f : Fits 32 bytes) (i : ℕ) (h : i < (sheet_of bytes).unit_count) (x : ℕ) (is : x ≡ (unit_of (sheet_of bytes) i).reading) where
  pub reading_fits : x ≤ highest_wh
  reading_fits = omega (arith, is, (each_at (UnitFits (sheet_of bytes)) (sheet_of bytes).units i (unit_row []) f.units (omega (arith, f.units_length))).reading)

  pub next_sum : (sum : ℕ) → sum ≡ sum_of (λ u. u.reading) (take i (sheet_of bytes).units) → sum + x ≡ sum_of (λ u. u.reading) (take (i + 1) (sheet_of bytes).units)
  next_sum sum e = rw (e, is) (sym (one_reading_more bytes i h))

  pub next_fits : (sum : ℕ) → sum ≡ sum_of (λ u. u.reading) (take i (sheet_of bytes).units) → sum + x ≤ highest_wh
  next_fits sum e = omega (arith, next_sum sum e, readings_fit bytes f (i + 1))

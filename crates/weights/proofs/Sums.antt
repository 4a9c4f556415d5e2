-- The sums one unit more at a time, their bounds, and that they are document 01's. Assumes nothing.
use mathlib.Core.Path.{◌≡◌, refl, sym, ◌∙◌}
use mathlib.Core.Logic.{inl, inr}
use mathlib.Core.Bool.{Bool, true, false, not, ◌||◌}
use mathlib.Core.List.{List, [], ◌∷◌, ◌++◌}
use Prim.Native.Nat.{ℕ, ◌+◌, ◌*◌, ◌≤◌}
use native.Mathlib.Omega.{arith}
use lib.Dec.{eqb}
use lib.ListN.{length}
use Rattle.sheet.specs.Layout.{UnitRow, Sheet}
use Rattle.sheet.specs.Inner.Fits.{UnitFits}
use Rattle.sheet.specs.Tests.{Each}
use Rattle.month.specs.Weights.{those, sum_of, is_read, has_no_device, unread_weight, total_area, unread_weights, read_area, read_surface, reading_sum, units_of_class, litres_of_class1, persons_of_class2}
use Rattle.month.proofs.Lists.{decided, sum-next}
use Rattle.month.proofs.Accepted.{sum-those}
use Rattle.month.proofs.Bounds.{sum-at_most, three_le}
use Rattle.weights.specs.Inner.Totals.{only_if, of_unit, plus_totals, totals_in, Within}
use Rattle.weights.specs.declared.totals.Totals.{Totals}

-- the sums of some units
pub record Sums (s : Sheet) (us : List UnitRow) (t : Totals) : Type 0 where
  pub area : t.area ≡ sum_of (λ u. (of_unit s u).area) us
  pub load : t.load ≡ sum_of (λ u. (of_unit s u).load) us
  pub class1 : t.class1 ≡ sum_of (λ u. (of_unit s u).class1) us
  pub class2 : t.class2 ≡ sum_of (λ u. (of_unit s u).class2) us
  pub litres : t.litres ≡ sum_of (λ u. (of_unit s u).litres) us
  pub persons2 : t.persons2 ≡ sum_of (λ u. (of_unit s u).persons2) us
  pub persons : t.persons ≡ sum_of (λ u. (of_unit s u).persons) us
  pub unread : t.unread ≡ sum_of (λ u. (of_unit s u).unread) us
  pub read : t.read ≡ sum_of (λ u. (of_unit s u).read) us
  pub readarea : t.readarea ≡ sum_of (λ u. (of_unit s u).readarea) us
  pub surface : t.surface ≡ sum_of (λ u. (of_unit s u).surface) us
  pub readings : t.readings ≡ sum_of (λ u. (of_unit s u).readings) us

more : (f : UnitRow → ℕ) (us : List UnitRow) (u : UnitRow) {x : ℕ} → x ≡ sum_of f us → x + f u ≡ sum_of f (us ++ (u ∷ []))
more f us u e = omega (arith, e, sum-next f us u)

pub sums_next : (s : Sheet) (us : List UnitRow) (u : UnitRow) (t : Totals) → Sums s us t → Sums s (us ++ (u ∷ [])) (plus_totals t (of_unit s u))
sums_next s us u t h = record {
  area = more (λ u. (of_unit s u).area) us u h.area;
  load = more (λ u. (of_unit s u).load) us u h.load;
  class1 = more (λ u. (of_unit s u).class1) us u h.class1;
  class2 = more (λ u. (of_unit s u).class2) us u h.class2;
  litres = more (λ u. (of_unit s u).litres) us u h.litres;
  persons2 = more (λ u. (of_unit s u).persons2) us u h.persons2;
  persons = more (λ u. (of_unit s u).persons) us u h.persons;
  unread = more (λ u. (of_unit s u).unread) us u h.unread;
  read = more (λ u. (of_unit s u).read) us u h.read;
  readarea = more (λ u. (of_unit s u).readarea) us u h.readarea;
  surface = more (λ u. (of_unit s u).surface) us u h.surface;
  readings = more (λ u. (of_unit s u).readings) us u h.readings;
}

-- ---- bounds
pub only_le : (t : Bool) {x b : ℕ} → x ≤ b → only_if t x ≤ b
only_le true h = h
only_le false h = omega arith

pub unread_le : (s : Sheet) (u : UnitRow) → s.unmetered_factor ≤ 35 → UnitFits s u → unread_weight s u ≤ 350000000
unfolding unread_weight
unread_le s u f h =
    elim (decided (has_no_device u)) [
      | inl e ↦ rw e (three_le h.heated_area h.location_factor f)
      | inr e ↦ rw e (omega (arith, h.heated_area))
    ]

pub unit-within : (s : Sheet) (u : UnitRow) → s.unmetered_factor ≤ 35 → UnitFits s u → Within 1 (of_unit s u)
unit-within s u f h = record {
  area = h.heated_area;
  load = h.heat_load;
  class1 = only_le (eqb u.water_class 1) (omega arith);
  class2 = only_le (eqb u.water_class 2) (omega arith);
  litres = only_le (eqb u.water_class 1) h.litres;
  persons2 = only_le (eqb u.water_class 2) h.persons;
  persons = only_le (eqb u.water_class 1 || eqb u.water_class 2) h.persons;
  unread = only_le (not (is_read u)) (unread_le s u f h);
  read = only_le (is_read u) (omega arith);
  readarea = only_le (is_read u) h.heated_area;
  surface = only_le (is_read u) h.riser_surface;
  readings = only_le (is_read u) h.reading;
}

module _ (s : Sheet) (us : List UnitRow) (f : s.unmetered_factor ≤ 35) (h : Each (UnitFits s) us) (few : length us ≤ 160) where
  at_most : (g : UnitRow → ℕ) (b : ℕ) → ((u : UnitRow) → UnitFits s u → g u ≤ b) → {x : ℕ} → x ≡ sum_of g us → x ≤ 160 * b
  at_most g b le e = rw e (sum-at_most (UnitFits s) g b le 160 us h few)

  pub sums-within : (t : Totals) → Sums s us t → Within 160 t
  sums-within t e = record {
    area = at_most (λ u. (of_unit s u).area) 10000 (λ u k. (unit-within s u f k).area) e.area;
    load = at_most (λ u. (of_unit s u).load) 100000 (λ u k. (unit-within s u f k).load) e.load;
    class1 = at_most (λ u. (of_unit s u).class1) 1 (λ u k. (unit-within s u f k).class1) e.class1;
    class2 = at_most (λ u. (of_unit s u).class2) 1 (λ u k. (unit-within s u f k).class2) e.class2;
    litres = at_most (λ u. (of_unit s u).litres) 1000000 (λ u k. (unit-within s u f k).litres) e.litres;
    persons2 = at_most (λ u. (of_unit s u).persons2) 50 (λ u k. (unit-within s u f k).persons2) e.persons2;
    persons = at_most (λ u. (of_unit s u).persons) 50 (λ u k. (unit-within s u f k).persons) e.persons;
    unread = at_most (λ u. (of_unit s u).unread) 350000000 (λ u k. (unit-within s u f k).unread) e.unread;
    read = at_most (λ u. (of_unit s u).read) 1 (λ u k. (unit-within s u f k).read) e.read;
    readarea = at_most (λ u. (of_unit s u).readarea) 10000 (λ u k. (unit-within s u f k).readarea) e.readarea;
    surface = at_most (λ u. (of_unit s u).surface) 10000 (λ u k. (unit-within s u f k).surface) e.surface;
    readings = at_most (λ u. (of_unit s u).readings) 25000000 (λ u k. (unit-within s u f k).readings) e.readings;
  }

  pub impulses-within : s.model ≤ 4 → {x : ℕ} → x ≡ sum_of (λ u. (of_unit s u).readings) us → x ≤ 8000000
  impulses-within m e = at_most (λ u. (of_unit s u).readings) 50000 (λ u k. only_le (is_read u) (k.impulses m)) e

-- ---- document 01's sums
count-those : (p : UnitRow → Bool) (us : List UnitRow) → length (those p us) ≡ sum_of (λ u. only_if (p u) 1) us
count-those p [] = refl
count-those p (u ∷ us) = elim (decided (p u)) [ inl e ↦ rw e (omega (arith, count-those p us)) | inr e ↦ rw e (omega (arith, count-those p us)) ]

module _ (s : Sheet) where
  pub sums_are : Sums s s.units (totals_in s)
  unfolding total_area units_of_class litres_of_class1 persons_of_class2 unread_weights read_area read_surface reading_sum
  sums_are = record {
    area = refl;
    load = refl;
    class1 = count-those (λ u. eqb u.water_class 1) s.units;
    class2 = count-those (λ u. eqb u.water_class 2) s.units;
    litres = sum-those (λ u. eqb u.water_class 1) (λ u. u.litres) s.units;
    persons2 = sum-those (λ u. eqb u.water_class 2) (λ u. u.persons) s.units;
    persons = refl;
    unread = sum-those (λ u. not (is_read u)) (unread_weight s) s.units;
    read = count-those is_read s.units;
    readarea = sum-those is_read (λ u. u.heated_area) s.units;
    surface = sum-those is_read (λ u. u.riser_surface) s.units;
    readings = sum-those is_read (λ u. u.reading) s.units;
  }

  pub totals_are : (t : Totals) → Sums s s.units t → t ≡ totals_in s
  totals_are t h =
      let k = sums_are in
      λ i. record {
        area = (h.area ∙ sym k.area) i;
        load = (h.load ∙ sym k.load) i;
        class1 = (h.class1 ∙ sym k.class1) i;
        class2 = (h.class2 ∙ sym k.class2) i;
        litres = (h.litres ∙ sym k.litres) i;
        persons2 = (h.persons2 ∙ sym k.persons2) i;
        persons = (h.persons ∙ sym k.persons) i;
        unread = (h.unread ∙ sym k.unread) i;
        read = (h.read ∙ sym k.read) i;
        readarea = (h.readarea ∙ sym k.readarea) i;
        surface = (h.surface ∙ sym k.surface) i;
        readings = (h.readings ∙ sym k.readings) i;
      }

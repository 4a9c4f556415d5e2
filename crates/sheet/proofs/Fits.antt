-- A sheet that passes 1 to 7 and 20 has what specs/Inner/Fits.antt lists. Assumes nothing.
use Rattle.std.specs.Prelude.{if◌then◌else◌, Ok}
use mathlib.Core.Path.{◌≡◌, refl, subst}
use mathlib.Core.Bool.{Bool, true, false, ◌&&◌}
use mathlib.Core.List.{List, [], ◌∷◌, map}
use mathlib.Core.Option.{Option, none, some}
use Prim.Native.Nat.{ℕ, zero, suc, ◌+◌, ◌≤◌, ◌<◌}
use native.Mathlib.Omega.{arith}
use lib.Dec.{leb, eqb}
use lib.ListN.{length, get_or, take}
use lib.Seq.{get_or-take}
use borrow.Author.Tests.{leb-true, leb-false, eqb-true, ne_eqb, not-false}
use Rattle.sheet.specs.declared.ranges.Range.{Range}
use Rattle.sheet.specs.Tests.{Each}
use Rattle.sheet.specs.Layout.{UnitRow, Sheet, sheet_of, water_reading}
use Rattle.sheet.specs.Check.{entry, ◌to◌, ◌within◌, ◌offset◌, header_tests, header_rule, row_tests, field_rules, row_rules, sheet_rules, checked, base_percent_ranges, common_heat_ranges, unmetered_factor_ranges, common_water_ranges, loss_factor_ranges, first_water_reading_ranges, other_water_reading_ranges, status_ranges, water_class_ranges, reading_ranges, litres_ranges, persons_ranges}
use Rattle.sheet.specs.Inner.Fits.{InRange, Increasing, id_of, UnitFits, HeaderFits, Fits}
use Rattle.sheet.proofs.Passed.{NoneHolds, none-holds, none_of-both, and_true, not-outside}
use Rattle.sheet.proofs.Units.{units-count}

-- ---- a bound on the entries of a table, of what stands behind its end too, and on its first n
abbrev pub at_most : ℕ → List Range → Bool
at_most b [] = true
at_most b (r ∷ rs) = leb r.high b && at_most b rs

pub entry-high : (table : List Range) (b k : ℕ) → at_most b table ≡ true → (entry table k).high ≤ b
entry-high [] b k e = omega arith
entry-high (r ∷ rs) b zero e = leb-true r.high b (and_true (leb r.high b) _ e).0
entry-high (r ∷ rs) b (suc k) e = entry-high rs b k (and_true (leb r.high b) _ e).1

pub entry-at_most : (table : List Range) (n b k : ℕ) → at_most b (take n table) ≡ true → k < n → (entry table k).high ≤ b
entry-at_most table n b k e h = subst (λ (r : Range). r.high ≤ b) (get_or-take n table k (0 to 0) h) (entry-high (take n table) b k e)

-- ---- 6 and 20: a row
-- b is within its model's range, and 0 where the unit isn't read
pub read-high : (t : Bool) (x : ℕ) (r : Range) → InRange x (if t then r else 0 to 0) → x ≤ r.high
read-high true x r h = h.1
read-high false x r h = omega arith

module _ (s : Sheet) (u : UnitRow) (i : ℕ) (h : NoneHolds (field_rules i (row_tests s u))) where
  pub unit-fits : UnitFits s u
  unfolding row_tests field_rules
  unit-fits =
      let status = not-outside u.status (0 to 4) h.0 in
      let by_model = not-outside u.status (entry status_ranges s.model) h.1.0 in
      let class = not-outside u.water_class (0 to 2) h.1.1.0 in
      let by_source = not-outside u.water_class (entry water_class_ranges s.water_source) h.1.1.1.0 in
      let h = h.1.1.1.1 in
      let factor = not-outside u.location_factor (1 to 1000) h.0 in
      let area = not-outside u.heated_area (1 to 10000) h.1.0 in
      let surface = not-outside u.riser_surface (0 to 10000) h.1.1.0 in
      let load = not-outside u.heat_load (0 to 100000) h.1.1.1.0 in
      let h = h.1.1.1.1 in
      let reading = not-outside u.reading (0 to 25000000) h.0 in
      let read = not-outside u.reading (if eqb u.status 0 then entry reading_ranges s.model else 0 to 0) h.1.0 in
      let readHigh = read-high (eqb u.status 0) u.reading (entry reading_ranges s.model) read in
      let litres = not-outside u.litres (0 to 1000000) h.1.1.0 in
      let litresByClass = not-outside u.litres (entry litres_ranges u.water_class) h.1.1.1.0 in
      let h = h.1.1.1.1 in
      let persons = not-outside u.persons (0 to 50) h.0 in
      let personsByClass = not-outside u.persons (entry persons_ranges u.water_class) h.1.0 in
      let reserved = not-outside u.reserved (0 to 0) h.1.1.0 in
      record {
        status = status.1;
        unmetered_status = λ m. omega (arith, by_model.1, entry-at_most status_ranges 3 0 s.model refl (omega arith));
        water_class = class.1;
        no_water_class = λ w. omega (arith, by_source.1, entry-at_most water_class_ranges 1 0 s.water_source refl (omega arith));
        location_factor_low = factor.0;
        location_factor = factor.1;
        heated_area_low = area.0;
        heated_area = area.1;
        riser_surface = surface.1;
        heat_load = load.1;
        reading = reading.1;
        impulses = λ m. omega (arith, readHigh, entry-at_most reading_ranges 5 50000 s.model refl (omega arith));
        unmetered_reading = λ m. omega (arith, readHigh, entry-at_most reading_ranges 3 0 s.model refl (omega arith));
        no_reading = λ l. let z : u.reading ≤ 0 = (subst (λ (t : Bool). InRange u.reading (if t then entry reading_ranges s.model else 0 to 0)) (ne_eqb u.status 0 (λ w. omega arith)) read).1 in omega arith;
        litres = litres.1;
        no_litres = λ ne. no_litres_lem u.water_class class.1 ne litresByClass.1;
        persons = persons.1;
        no_persons = λ c. omega (arith, personsByClass.1, entry-at_most persons_ranges 1 0 u.water_class refl (omega arith));
        reserved = omega arith;
      }
    where
      no_litres_lem : (k : ℕ) → k ≤ 2 → (k ≡ 1 → ⊥) → u.litres ≤ (entry litres_ranges k).high → u.litres ≡ 0
      no_litres_lem zero h ne f = omega arith
      no_litres_lem (suc zero) h ne f = absurd (ne refl)
      no_litres_lem (suc (suc zero)) h ne f = omega arith
      no_litres_lem (suc (suc (suc k))) h ne f = absurd (omega arith)

-- ---- 6, 20 and 7: the rows
pub units_fit : (s : Sheet) (i : ℕ) (before : Option ℕ) (us : List UnitRow) → NoneHolds (row_rules s i before us) → Each (UnitFits s) us
unfolding row_rules
units_fit s i before [] h = tt
units_fit s i before (u ∷ us) h = let row = none_of-both (field_rules i (row_tests s u)) _ h in (unit-fits s u i row.0, units_fit s (i + 1) (some u.id) us row.1.1)

pub ids_increase : (s : Sheet) (i : ℕ) (before : Option ℕ) (us : List UnitRow) → NoneHolds (row_rules s i before us) → Increasing (map id_of us)
unfolding row_rules
ids_increase s i before [] h = tt
ids_increase s i before (u ∷ []) h = tt
ids_increase s i before (u ∷ v ∷ us) h =
    let later = (none_of-both (field_rules i (row_tests s u)) _ h).1.1 in
    (leb-false v.id u.id (none_of-both (field_rules (i + 1) (row_tests s v)) _ later).1.0, ids_increase s (i + 1) (some u.id) (v ∷ us) later)

-- ---- 4: the header
module _ (s : Sheet) (version : s.version ≡ 1) (t : NoneHolds (map header_rule (header_tests s))) where
  pub header-fits : HeaderFits s
  unfolding header_tests
  header-fits =
      let month = not-outside s.month (1 to 12) t.0 in
      let model = not-outside s.model (1 to 5) t.1.0 in
      let count = not-outside s.unit_count (1 to 160) t.1.1.0 in
      let source = not-outside s.water_source (0 to 3) t.1.1.1.0 in
      let base = not-outside s.base_percent (entry base_percent_ranges s.model) t.1.1.1.1.0 in
      let heat = not-outside s.common_heat_percent (entry common_heat_ranges s.model) t.1.1.1.1.1.0 in
      let water = not-outside s.common_water_percent (entry common_water_ranges s.water_source) t.1.1.1.1.1.1.0 in
      let factor = not-outside s.unmetered_factor (entry unmetered_factor_ranges s.model) t.1.1.1.1.1.1.1.0 in
      let loss = not-outside s.loss_factor (entry loss_factor_ranges s.water_source) t.1.1.1.1.1.1.1.1.0 in
      let later = t.1.1.1.1.1.1.1.1.1 in
      let meter = not-outside s.shared_meter (0 to 4000000000) later.0 in
      let price = not-outside s.price (0 to 100000) later.1.0 in
      let first = not-outside (water_reading s 0) (entry first_water_reading_ranges s.water_source) later.1.1.0 in
      let others = other_readings later.1.1.1 in
      record {
        version = version;
        month_low = month.0;
        month = month.1;
        model_low = model.0;
        model = model.1;
        unit_count_low = count.0;
        unit_count = count.1;
        water_source = source.1;
        base_percent = base;
        base_percent_high = omega (arith, base.1, entry-high base_percent_ranges 60 s.model refl);
        common_heat_percent = heat;
        common_heat_percent_high = omega (arith, heat.1, entry-high common_heat_ranges 50 s.model refl);
        common_water_percent = water;
        common_water_percent_high = omega (arith, water.1, entry-high common_water_ranges 50 s.water_source refl);
        unmetered_factor = factor;
        unmetered_factor_high = omega (arith, factor.1, entry-high unmetered_factor_ranges 35 s.model refl);
        loss_factor = loss;
        loss_factor_high = omega (arith, loss.1, entry-high loss_factor_ranges 200 s.water_source refl);
        shared_meter = meter.1;
        price = price.1;
        first_water_reading = first;
        other_water_readings = others;
        water_readings = λ k h. readings first others 4 4000000000 refl refl (omega arith) k h;
        water_litres = λ w. subst (λ (k : ℕ). water_reading s 0 ≤ (entry first_water_reading_ranges k).high) w first.1;
        no_water_readings = λ w k h. let z = readings first others 1 0 refl refl (omega arith) k h in omega arith;
        one_water_reading = λ w k l h. let z = entry-at_most other_water_reading_ranges 3 0 s.water_source refl (omega arith) in omega (arith, (others k l h).1);
      }
    where
      other_readings : NoneHolds (map header_rule (
          water_reading s 1 within entry other_water_reading_ranges s.water_source offset 28
          ∷ water_reading s 2 within entry other_water_reading_ranges s.water_source offset 32
          ∷ water_reading s 3 within entry other_water_reading_ranges s.water_source offset 36
          ∷ water_reading s 4 within entry other_water_reading_ranges s.water_source offset 40
          ∷ water_reading s 5 within entry other_water_reading_ranges s.water_source offset 44
          ∷ [])) → (k : ℕ) → 1 ≤ k → k < 6 → InRange (water_reading s k) (entry other_water_reading_ranges s.water_source)
      other_readings t zero l h = absurd (omega arith)
      other_readings t (suc zero) l h = not-outside _ _ t.0
      other_readings t (suc (suc zero)) l h = not-outside _ _ t.1.0
      other_readings t (suc (suc (suc zero))) l h = not-outside _ _ t.1.1.0
      other_readings t (suc (suc (suc (suc zero)))) l h = not-outside _ _ t.1.1.1.0
      other_readings t (suc (suc (suc (suc (suc zero))))) l h = not-outside _ _ t.1.1.1.1.0
      other_readings t (suc (suc (suc (suc (suc (suc k)))))) l h = absurd (omega arith)

      readings : InRange (water_reading s 0) (entry first_water_reading_ranges s.water_source)
          → ((k : ℕ) → 1 ≤ k → k < 6 → InRange (water_reading s k) (entry other_water_reading_ranges s.water_source))
          → (n b : ℕ) → at_most b (take n first_water_reading_ranges) ≡ true → at_most b (take n other_water_reading_ranges) ≡ true → s.water_source < n → (k : ℕ) → k < 6 → water_reading s k ≤ b
      readings first others n b p q w zero h = omega (arith, first.1, entry-at_most first_water_reading_ranges n b s.water_source p w)
      readings first others n b p q w (suc k) h = omega (arith, (others (suc k) (omega arith) h).1, entry-at_most other_water_reading_ranges n b s.water_source q w)

-- ---- 1 to 7 with 20: what an accepted sheet has
pub fits : (perUnit : ℕ) (bytes : List ℕ) → checked perUnit bytes ≡ Ok tt → Fits perUnit bytes
unfolding checked sheet_rules
fits perUnit bytes e =
    let h = none-holds (sheet_rules perUnit bytes) e in
    let s = sheet_of bytes in
    let behind = none_of-both (map header_rule (header_tests s)) _ h.1.1.1 in
    let rows = behind.1.1 in
    record {
      byte_count = eqb-true _ _ (not-false _ behind.1.0);
      header = header-fits s (eqb-true _ _ (not-false _ h.1.1.0)) behind.0;
      units_length = units-count bytes;
      units = units_fit s 0 none s.units rows;
      increasing = ids_increase s 0 none s.units rows;
    }

-- ---- what each unit has, unit i has
pub each_at : {A : Type 0} (P : A → Type 0) (xs : List A) (i : ℕ) (d : A) → Each P xs → i < length xs → P (get_or xs i d)
each_at P [] i d e h = absurd (omega arith)
each_at P (x ∷ xs) zero d e h = e.0
each_at P (x ∷ xs) (suc i) d e h = each_at P xs i d e.1 (omega arith)

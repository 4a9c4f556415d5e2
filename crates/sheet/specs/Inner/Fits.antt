-- What a sheet has that passes 1 to 7 (document 01, "The sheet"): plain facts for whoever works with it. proofs/Fits.antt shows them.
use Rattle.std.specs.Prelude.{◌≡◌, List, [], ◌∷◌, map, ℕ, ◌+◌, ◌*◌, ◌≤◌, ◌<◌, length}
use Rattle.std.proofs.Math.Nat.{ℕ_set}
use Rattle.std.specs.Coded.{×_prop, Unit-prop, le_prop}
use Rattle.sheet.specs.declared.ranges.Range.{Range}
use Rattle.sheet.specs.Tests.{Each}
use Rattle.sheet.specs.Layout.{UnitRow, Sheet, sheet_of, water_reading}
use Rattle.sheet.specs.Check.{entry, base_percent_ranges, common_heat_ranges, unmetered_factor_ranges, common_water_ranges, loss_factor_ranges, first_water_reading_ranges, other_water_reading_ranges}

abbrev pub InRange : ℕ → Range → Type 0
InRange x r = (r.low ≤ x) × (x ≤ r.high)

-- each number is below the next
abbrev pub Increasing : List ℕ → Type 0
Increasing [] = Unit {0}
Increasing (x ∷ []) = Unit {0}
Increasing (x ∷ y ∷ ys) = (x < y) × Increasing (y ∷ ys)

abbrev pub id_of : UnitRow → ℕ
id_of u = u.id

-- a unit of the sheet s
pub record UnitFits (s : Sheet) (u : UnitRow) : Type 0 where
  pub status : u.status ≤ 4
  pub unmetered_status : s.model ≤ 2 → u.status ≡ 0  -- models 1 and 2
  pub water_class : u.water_class ≤ 2
  pub no_water_class : s.water_source ≡ 0 → u.water_class ≡ 0
  pub location_factor_low : 1 ≤ u.location_factor
  pub location_factor : u.location_factor ≤ 1000
  pub heated_area_low : 1 ≤ u.heated_area
  pub heated_area : u.heated_area ≤ 10000
  pub riser_surface : u.riser_surface ≤ 10000
  pub heat_load : u.heat_load ≤ 100000
  pub reading : u.reading ≤ 25000000
  pub impulses : s.model ≤ 4 → u.reading ≤ 50000
  pub unmetered_reading : s.model ≤ 2 → u.reading ≡ 0
  pub no_reading : 1 ≤ u.status → u.reading ≡ 0
  pub litres : u.litres ≤ 1000000
  pub no_litres : (u.water_class ≡ 1 → ⊥) → u.litres ≡ 0
  pub persons : u.persons ≤ 50
  pub no_persons : u.water_class ≡ 0 → u.persons ≡ 0
  pub reserved : u.reserved ≡ 0

-- the header of the sheet s
pub record HeaderFits (s : Sheet) : Type 0 where
  pub version : s.version ≡ 1
  pub month_low : 1 ≤ s.month
  pub month : s.month ≤ 12
  pub model_low : 1 ≤ s.model
  pub model : s.model ≤ 5
  pub unit_count_low : 1 ≤ s.unit_count
  pub unit_count : s.unit_count ≤ 160
  pub water_source : s.water_source ≤ 3
  pub base_percent : InRange s.base_percent (entry base_percent_ranges s.model)
  pub base_percent_high : s.base_percent ≤ 60
  pub common_heat_percent : InRange s.common_heat_percent (entry common_heat_ranges s.model)
  pub common_heat_percent_high : s.common_heat_percent ≤ 50
  pub common_water_percent : InRange s.common_water_percent (entry common_water_ranges s.water_source)
  pub common_water_percent_high : s.common_water_percent ≤ 50
  pub unmetered_factor : InRange s.unmetered_factor (entry unmetered_factor_ranges s.model)
  pub unmetered_factor_high : s.unmetered_factor ≤ 35
  pub loss_factor : InRange s.loss_factor (entry loss_factor_ranges s.water_source)
  pub loss_factor_high : s.loss_factor ≤ 200
  pub shared_meter : s.shared_meter ≤ 4000000000
  pub price : s.price ≤ 100000
  pub first_water_reading : InRange (water_reading s 0) (entry first_water_reading_ranges s.water_source)
  pub other_water_readings : (k : ℕ) → 1 ≤ k → k < 6 → InRange (water_reading s k) (entry other_water_reading_ranges s.water_source)
  pub water_readings : (k : ℕ) → k < 6 → water_reading s k ≤ 4000000000
  pub water_litres : s.water_source ≡ 2 → water_reading s 0 ≤ 20000000
  pub no_water_readings : s.water_source ≡ 0 → (k : ℕ) → k < 6 → water_reading s k ≡ 0
  pub one_water_reading : s.water_source ≤ 2 → (k : ℕ) → 1 ≤ k → k < 6 → water_reading s k ≡ 0

Each-prop : {A : Type 0} (P : A → Type 0) → ((x : A) → IsProp (P x)) → (xs : List A) → IsProp (Each P xs)
Each-prop P p [] = Unit-prop
Each-prop P p (x ∷ xs) = ×_prop (p x) (Each-prop P p xs)

Increasing-prop : (xs : List ℕ) → IsProp (Increasing xs)
Increasing-prop [] = Unit-prop
Increasing-prop (x ∷ []) = Unit-prop
Increasing-prop (x ∷ y ∷ ys) = ×_prop le_prop (Increasing-prop (y ∷ ys))

UnitFits-prop : (s : Sheet) (u : UnitRow) → IsProp (UnitFits s u)
UnitFits-prop s u = Prim.hlevel (ℕ_set, le_prop)

-- a sheet with `perUnit` bytes to a unit: 32 alone, 64 in an archive record
pub record Fits (perUnit : ℕ) (bytes : List ℕ) : Type 0 where
  pub byte_count : length bytes ≡ 48 + perUnit * (sheet_of bytes).unit_count
  pub header : HeaderFits (sheet_of bytes)
  pub units_length : length (sheet_of bytes).units ≡ (sheet_of bytes).unit_count
  pub units : Each (UnitFits (sheet_of bytes)) (sheet_of bytes).units
  pub increasing : Increasing (map id_of (sheet_of bytes).units)

-- there is one proof at most, so a view can keep it
pub Fits-prop : (perUnit : ℕ) (bytes : List ℕ) → IsProp (Fits perUnit bytes)
Fits-prop perUnit bytes = Prim.hlevel (ℕ_set, le_prop, Each-prop _ (UnitFits-prop (sheet_of bytes)) (sheet_of bytes).units, Increasing-prop (map id_of (sheet_of bytes).units))

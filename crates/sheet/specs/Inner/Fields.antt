-- The fields of header and rows, and where a unit row stands in the sheet's bytes.
use Rattle.std.specs.Prelude.{List, [], ◌∷◌, map, ℕ, zero, suc, ◌+◌, ◌-◌, ◌/◌, leb, length, get_or, take, drop, if◌then◌else◌}
use Rattle.std.proofs.Math.Option.{Option, none, some}
use Rattle.sheet.specs.declared.header.Field.{Field as HeaderField}
use Rattle.sheet.specs.declared.header.Field.TheVariants.{Month, Model, UnitCount, WaterSource, BasePercent, CommonHeatPercent, CommonWaterPercent, UnmeteredFactor, LossFactor, SharedMeter, Price}
use Rattle.sheet.specs.declared.header.Field.TheVariants.{WaterReading1, WaterReading2, WaterReading3, WaterReading4, WaterReading5, WaterReading6}
use Rattle.sheet.specs.declared.rows.Field.{Field as RowField}
use Rattle.sheet.specs.declared.rows.Field.TheVariants.{Id, Status, WaterClass, LocationFactor, HeatedArea, RiserSurface, HeatLoad, Reading, Litres, Persons, Reserved}
use Rattle.sheet.specs.Layout.{UnitRow, Sheet, unit_row, water_reading}

-- the unit row that starts at byte `at`
abbrev pub unit_row_at : List ℕ → ℕ → UnitRow
unit_row_at bytes at = unit_row (take 32 (drop at bytes))

-- unit i, from 0; past the last one all fields are 0
abbrev pub unit_of : Sheet → ℕ → UnitRow
unit_of s i = get_or s.units i (unit_row [])

-- which row starts at byte `start`, from 0
abbrev pub row_place : ℕ → ℕ
row_place start = (start - 48) / 32

abbrev pub row_field : UnitRow → RowField → ℕ
row_field u Id = u.id
row_field u Status = u.status
row_field u WaterClass = u.water_class
row_field u LocationFactor = u.location_factor
row_field u HeatedArea = u.heated_area
row_field u RiserSurface = u.riser_surface
row_field u HeatLoad = u.heat_load
row_field u Reading = u.reading
row_field u Litres = u.litres
row_field u Persons = u.persons
row_field u Reserved = u.reserved

-- a row's fields by their number in layout order, from 0
abbrev pub row_fields : UnitRow → List ℕ
row_fields u = map (row_field u) (Id ∷ Status ∷ WaterClass ∷ LocationFactor ∷ HeatedArea ∷ RiserSurface ∷ HeatLoad ∷ Reading ∷ Litres ∷ Persons ∷ Reserved ∷ [])

-- field k of the row at byte `at`; 0 where the row isn't wholly inside or has no field k
abbrev pub field_at : List ℕ → ℕ → ℕ → ℕ
field_at bytes at k = if leb (at + 32) (length bytes) then get_or (row_fields (unit_row_at bytes at)) k 0 else 0

abbrev pub header_field : Sheet → HeaderField → ℕ
header_field s Month = s.month
header_field s Model = s.model
header_field s UnitCount = s.unit_count
header_field s WaterSource = s.water_source
header_field s BasePercent = s.base_percent
header_field s CommonHeatPercent = s.common_heat_percent
header_field s CommonWaterPercent = s.common_water_percent
header_field s UnmeteredFactor = s.unmetered_factor
header_field s LossFactor = s.loss_factor
header_field s SharedMeter = s.shared_meter
header_field s Price = s.price
header_field s WaterReading1 = water_reading s 0
header_field s WaterReading2 = water_reading s 1
header_field s WaterReading3 = water_reading s 2
header_field s WaterReading4 = water_reading s 3
header_field s WaterReading5 = water_reading s 4
header_field s WaterReading6 = water_reading s 5

-- the id before unit i; the first unit has none before it
abbrev pub id_before : Sheet → ℕ → Option ℕ
id_before s zero = none
id_before s (suc i) = some (unit_of s i).id

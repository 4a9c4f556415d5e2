-- What the check looks up: where the header's fields start, the ranges of header and rows, and those that hold for all rows of a sheet.
use Rattle.std.specs.Prelude.{Bool, true, false, ◌≡◌, List, [], map, ℕ}
use Rattle.sheet.specs.declared.header.Field.{Field}
use Rattle.sheet.specs.declared.header.Field.TheVariants.{Month, Model, UnitCount, WaterSource, BasePercent, CommonHeatPercent, CommonWaterPercent, UnmeteredFactor, LossFactor, SharedMeter, Price}
use Rattle.sheet.specs.declared.header.Field.TheVariants.{WaterReading1, WaterReading2, WaterReading3, WaterReading4, WaterReading5, WaterReading6}
use Rattle.sheet.specs.declared.ranges.Range.{Range}
use Rattle.sheet.specs.declared.ranges.RowLimits.{RowLimits}
use Rattle.sheet.specs.declared.refusal.Refusal.{Refusal}
use Rattle.sheet.specs.declared.refusal.Refusal.TheVariants.{RowField, FieldConflict}
use Rattle.sheet.specs.Layout.{Sheet, unit_row, sheet_of}
use Rattle.sheet.specs.Check.{HeaderTest, RowTest, fixed, ◌allowing◌, entry, row_tests, status_ranges, water_class_ranges, reading_ranges}

-- ---- the header
abbrev pub header_range : HeaderTest → Range
header_range t = t.test.range

-- the first byte of a field in the sheet
abbrev pub header_offset : Field → ℕ
header_offset Month = 6
header_offset Model = 7
header_offset UnitCount = 8
header_offset WaterSource = 10
header_offset BasePercent = 11
header_offset CommonHeatPercent = 12
header_offset CommonWaterPercent = 13
header_offset UnmeteredFactor = 14
header_offset LossFactor = 15
header_offset SharedMeter = 16
header_offset Price = 20
header_offset WaterReading1 = 24
header_offset WaterReading2 = 28
header_offset WaterReading3 = 32
header_offset WaterReading4 = 36
header_offset WaterReading5 = 40
header_offset WaterReading6 = 44

-- ---- a row: a field's number, its fixed range, and what is allowed of it
abbrev pub value_of : RowTest → ℕ
value_of (fixed t) = t.value
value_of (t allowing range) = t.value

abbrev pub fixed_range : RowTest → Range
fixed_range (fixed t) = t.range
fixed_range (t allowing range) = t.range

abbrev pub allowed : RowTest → Range
allowed (fixed t) = t.range
allowed (t allowing range) = range

-- the same in every row
abbrev pub row_ranges : List Range
row_ranges = map fixed_range (row_tests (sheet_of []) (unit_row []))

-- a field that isn't allowed, by whether it is within its fixed range
abbrev pub refusal_by : Bool → ℕ → Refusal
refusal_by true i = FieldConflict i
refusal_by false i = RowField i

-- what model and source allow in every row
pub record LimitsOf (s : Sheet) (limits : RowLimits) : Type 0 where
  pub status : limits.status ≡ entry status_ranges s.model
  pub class : limits.class ≡ entry water_class_ranges s.water_source
  pub reading : limits.reading ≡ entry reading_ranges s.model

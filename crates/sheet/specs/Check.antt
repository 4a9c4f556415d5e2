-- The check of a sheet: refusals 1 to 7 and 20 (document 01, "The sheet", "Refused sheets and calls"; 2026-03).
use Rattle.std.specs.Prelude.{Bool, true, false, not, ◌&&◌, List, [], ◌∷◌, ◌++◌, map, ℕ, ◌+◌, ◌*◌, ltb, leb, eqb, length, get_or, if◌then◌else◌}
use Rattle.std.proofs.Math.Option.{Option, none, some}
use Rattle.sheet.specs.declared.ranges.Range.{Range}
use Rattle.sheet.specs.Refusals.{Outcome, Rule, ◌⇒◌, first_refusal}
use Rattle.sheet.specs.declared.refusal.Refusal.TheVariants.{TooShort, BadMagic, UnsupportedVersion, HeaderField, WrongLength, RowField, IdOrder, FieldConflict}
use Rattle.sheet.specs.Layout.{UnitRow, Sheet, sheet_of, water_reading}

-- ---- ranges: a lowest and a highest
infix 80 ◌to◌
abbrev pub ◌to◌ : ℕ → ℕ → Range
low to high = record { low = low; high = high }

-- a field held to a range
pub record FieldTest : Type 0 where
  pub value : ℕ
  pub range : Range

infix 70 ◌within◌
abbrev pub ◌within◌ : ℕ → Range → FieldTest
x within r = record { value = x; range = r }

abbrev pub passes : FieldTest → Bool
passes t = leb t.range.low t.value && leb t.value t.range.high

-- entry k of a table
abbrev pub entry : List Range → ℕ → Range
entry table k = get_or table k (0 to 0)

-- Lowest and highest by model, 1 to 5; entry 0 is no model.
abbrev pub base_percent_ranges : List Range
base_percent_ranges = 0 to 0 ∷ 0 to 0 ∷ 0 to 0 ∷ 20 to 30 ∷ 0 to 60 ∷ 0 to 0 ∷ []  -- v: model 3 article 8, model 4 (own)

abbrev pub common_heat_ranges : List Range
common_heat_ranges = 0 to 0 ∷ 0 to 0 ∷ 0 to 0 ∷ 0 to 50 ∷ 0 to 50 ∷ 0 to 50 ∷ []  -- z (own)

abbrev pub unmetered_factor_ranges : List Range
unmetered_factor_ranges = 0 to 0 ∷ 0 to 0 ∷ 0 to 0 ∷ 25 to 35 ∷ 25 to 35 ∷ 25 to 35 ∷ []  -- f

abbrev pub status_ranges : List Range
status_ranges = 0 to 0 ∷ 0 to 0 ∷ 0 to 0 ∷ 0 to 4 ∷ 0 to 4 ∷ 0 to 4 ∷ []  -- models 1 and 2 need status 0

abbrev pub reading_ranges : List Range
reading_ranges = 0 to 0 ∷ 0 to 0 ∷ 0 to 0 ∷ 0 to 50000 ∷ 0 to 50000 ∷ 0 to 25000000 ∷ []  -- b of a read unit; models 1 and 2 need b 0

-- Lowest and highest by hot-water source, 0 to 3.
abbrev pub common_water_ranges : List Range
common_water_ranges = 0 to 0 ∷ 0 to 50 ∷ 0 to 50 ∷ 0 to 50 ∷ []  -- y (own)

abbrev pub loss_factor_ranges : List Range
loss_factor_ranges = 0 to 0 ∷ 0 to 0 ∷ 50 to 200 ∷ 0 to 0 ∷ []  -- t

abbrev pub first_water_reading_ranges : List Range
first_water_reading_ranges = 0 to 0 ∷ 0 to 4000000000 ∷ 0 to 20000000 ∷ 0 to 4000000000 ∷ []  -- h1

abbrev pub other_water_reading_ranges : List Range
other_water_reading_ranges = 0 to 0 ∷ 0 to 0 ∷ 0 to 0 ∷ 0 to 4000000000 ∷ []  -- h2 .. h6

abbrev pub water_class_ranges : List Range
water_class_ranges = 0 to 0 ∷ 0 to 2 ∷ 0 to 2 ∷ 0 to 2 ∷ []  -- only class 0 with source 0

-- Lowest and highest by water class, 0 to 2.
abbrev pub litres_ranges : List Range
litres_ranges = 0 to 0 ∷ 0 to 1000000 ∷ 0 to 0 ∷ []

abbrev pub persons_ranges : List Range
persons_ranges = 0 to 0 ∷ 0 to 50 ∷ 0 to 50 ∷ []

-- ---- 4: the header fields after the version, in layout order, each with its first byte in the sheet (2026-03)
pub record HeaderTest : Type 0 where
  pub test : FieldTest
  pub place : ℕ

infix 68 ◌offset◌
abbrev pub ◌offset◌ : FieldTest → ℕ → HeaderTest
t offset k = record { test = t; place = k }

unfoldable pub header_tests : Sheet → List HeaderTest
header_tests s =
    s.month within 1 to 12 offset 6
    ∷ s.model within 1 to 5 offset 7
    ∷ s.unit_count within 1 to 160 offset 8
    ∷ s.water_source within 0 to 3 offset 10
    ∷ s.base_percent within entry base_percent_ranges s.model offset 11
    ∷ s.common_heat_percent within entry common_heat_ranges s.model offset 12
    ∷ s.common_water_percent within entry common_water_ranges s.water_source offset 13
    ∷ s.unmetered_factor within entry unmetered_factor_ranges s.model offset 14
    ∷ s.loss_factor within entry loss_factor_ranges s.water_source offset 15
    ∷ s.shared_meter within 0 to 4000000000 offset 16
    ∷ s.price within 0 to 100000 offset 20
    ∷ water_reading s 0 within entry first_water_reading_ranges s.water_source offset 24
    ∷ water_reading s 1 within entry other_water_reading_ranges s.water_source offset 28
    ∷ water_reading s 2 within entry other_water_reading_ranges s.water_source offset 32
    ∷ water_reading s 3 within entry other_water_reading_ranges s.water_source offset 36
    ∷ water_reading s 4 within entry other_water_reading_ranges s.water_source offset 40
    ∷ water_reading s 5 within entry other_water_reading_ranges s.water_source offset 44
    ∷ []

abbrev pub header_rule : HeaderTest → Rule
header_rule t = not (passes t.test) ⇒ HeaderField t.place

-- ---- 6 and 20: the fields of a row, in layout order, each with its fixed range and, where it may clash, the range that model, source, status or class allow (2026-03)
pub data RowTest : Type 0 where
  fixed : FieldTest → RowTest
  ◌allowing◌ : FieldTest → Range → RowTest

infix 68 ◌allowing◌
-- An id may be any number.
unfoldable pub row_tests : Sheet → UnitRow → List RowTest
row_tests s u =
    u.status within 0 to 4 allowing entry status_ranges s.model
    ∷ u.water_class within 0 to 2 allowing entry water_class_ranges s.water_source
    ∷ fixed (u.location_factor within 1 to 1000)
    ∷ fixed (u.heated_area within 1 to 10000)
    ∷ fixed (u.riser_surface within 0 to 10000)
    ∷ fixed (u.heat_load within 0 to 100000)
    ∷ u.reading within 0 to 25000000 allowing (if eqb u.status 0 then entry reading_ranges s.model else 0 to 0)
    ∷ u.litres within 0 to 1000000 allowing entry litres_ranges u.water_class
    ∷ u.persons within 0 to 50 allowing entry persons_ranges u.water_class
    ∷ fixed (u.reserved within 0 to 0)
    ∷ []

-- 20 is tested at the same field as 6 and after it; i is the row.
unfoldable pub field_rules : ℕ → List RowTest → List Rule
field_rules i [] = []
field_rules i (fixed t ∷ ts) = (not (passes t) ⇒ RowField i) ∷ field_rules i ts
field_rules i ((t allowing range) ∷ ts) =
    (not (passes t) ⇒ RowField i)
    ∷ (not (passes (t.value within range)) ⇒ FieldConflict i)
    ∷ field_rules i ts

-- ---- 7: an id that is not above the one before; the first row has none before it
abbrev pub not_above : ℕ → Option ℕ → Bool
not_above id none = false
not_above id (some before) = leb id before

-- 6 and 20 are tested before 7, row by row, the rows counted from i on.
unfoldable pub row_rules : Sheet → ℕ → Option ℕ → List UnitRow → List Rule
row_rules s i before [] = []
row_rules s i before (u ∷ us) =
    field_rules i (row_tests s u)
    ++ (not_above u.id before ⇒ IdOrder i)
    ∷ row_rules s (i + 1) (some u.id) us

-- two lists are the same, number by number
abbrev pub same_list : List ℕ → List ℕ → Bool
same_list [] [] = true
same_list [] (y ∷ ys) = false
same_list (x ∷ xs) [] = false
same_list (x ∷ xs) (y ∷ ys) = eqb x y && same_list xs ys

-- `HCS`, 0
abbrev pub sheet_magic : List ℕ
sheet_magic = 72 ∷ 67 ∷ 83 ∷ 0 ∷ []

-- ---- 1 to 7 with 20, where a unit takes `perUnit` bytes after the header: 32 in a sheet, 64 in an archive record
unfoldable pub sheet_rules : ℕ → List ℕ → List Rule
sheet_rules perUnit bytes =
    let s = sheet_of bytes in
    (ltb (length bytes) 48 ⇒ TooShort)
    ∷ (not (same_list s.magic sheet_magic) ⇒ BadMagic)
    ∷ (not (eqb s.version 1) ⇒ UnsupportedVersion)
    ∷ map header_rule (header_tests s)
    ++ (not (eqb (length bytes) (48 + perUnit * s.unit_count)) ⇒ WrongLength)
    ∷ row_rules s 0 none s.units

-- what the check of any bytes answers
unfoldable pub checked : ℕ → List ℕ → Outcome
checked perUnit bytes = first_refusal (sheet_rules perUnit bytes)

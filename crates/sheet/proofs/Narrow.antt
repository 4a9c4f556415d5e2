-- What is allowed of a row's field lies within its fixed range, so one test passes both 6 and 20. Assumes nothing.
use Rattle.std.specs.Prelude.{if◌then◌else◌}
use mathlib.Core.Path.{◌≡◌, refl}
use mathlib.Core.Bool.{Bool, true}
use mathlib.Core.List.{List}
use Prim.Native.Nat.{ℕ, ◌≤◌}
use native.Mathlib.Omega.{arith}
use lib.Dec.{eqb}
use Rattle.sheet.specs.declared.ranges.Range.{Range}
use Rattle.sheet.specs.Tests.{Each}
use Rattle.sheet.specs.Layout.{UnitRow, Sheet}
use Rattle.sheet.specs.Check.{RowTest, ◌to◌, ◌within◌, passes, entry, row_tests, status_ranges, water_class_ranges, reading_ranges, litres_ranges, persons_ranges}
use Rattle.sheet.specs.Inner.FieldRanges.{value_of, fixed_range, allowed}
use Rattle.sheet.proofs.Passed.{in_range, of_range}
use Rattle.sheet.proofs.Fits.{at_most, entry-high, read-high}

abbrev pub Narrow : RowTest → Type 0
Narrow t = passes (value_of t within allowed t) ≡ true → passes (value_of t within fixed_range t) ≡ true

module _ (x b : ℕ) where
  below : x ≤ b → passes (x within 0 to b) ≡ true
  below h = of_range x (0 to b) (omega arith, h)

  in_table : (table : List Range) (k : ℕ) → at_most b table ≡ true → passes (x within entry table k) ≡ true → passes (x within 0 to b) ≡ true
  in_table table k h e = below (omega (arith, (in_range x (entry table k) e).1, entry-high table b k h))

  if-read : (t : Bool) (r : Range) → r.high ≤ b → passes (x within (if t then r else 0 to 0)) ≡ true → passes (x within 0 to b) ≡ true
  if-read t r h e = below (omega (arith, read-high t x r (in_range x _ e)))

pub narrow : (s : Sheet) (u : UnitRow) → Each Narrow (row_tests s u)
unfolding row_tests
narrow s u = (
  in_table u.status 4 status_ranges s.model refl,
  (
    in_table u.water_class 2 water_class_ranges s.water_source refl,
    (
      λ e. e,
      (
        λ e. e,
        (
          λ e. e,
          (
            λ e. e,
            (
              if-read u.reading 25000000 (eqb u.status 0) (entry reading_ranges s.model) (entry-high reading_ranges 25000000 s.model refl),
              (
                in_table u.litres 1000000 litres_ranges u.water_class refl,
                (
                  in_table u.persons 50 persons_ranges u.water_class refl,
                  (λ e. e, tt),
                ),
              ),
            ),
          ),
        ),
      ),
    ),
  ),
)

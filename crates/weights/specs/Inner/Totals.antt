-- The sums over the units: what one unit adds, the sums of document 01, and how large they can be.
use Rattle.std.specs.Prelude.{Bool, not, ℕ, ◌+◌, ◌*◌, ◌≤◌, eqb, length, if◌then◌else◌}
use Rattle.apportion.specs.Shares.{sum}
use Rattle.sheet.specs.Layout.{Sheet, UnitRow}
use Rattle.month.specs.Weights.{sum_of, is_read, read_units, unread_weight, total_area, unread_weights, read_area, read_surface, reading_sum, units_of_class, litres_of_class1, persons_of_class2, common_water_weight}
use Rattle.weights.specs.declared.totals.Totals.{Totals}

abbrev pub only_if : Bool → ℕ → ℕ
only_if t x = if t then x else 0

-- what a unit adds
abbrev pub of_unit : Sheet → UnitRow → Totals
of_unit s u = record {
  area = u.heated_area;
  load = u.heat_load;
  class1 = only_if (eqb u.water_class 1) 1;
  class2 = only_if (eqb u.water_class 2) 1;
  litres = only_if (eqb u.water_class 1) u.litres;
  persons2 = only_if (eqb u.water_class 2) u.persons;
  persons = common_water_weight u;
  unread = only_if (not (is_read u)) (unread_weight s u);
  read = only_if (is_read u) 1;
  readarea = only_if (is_read u) u.heated_area;
  surface = only_if (is_read u) u.riser_surface;
  readings = only_if (is_read u) u.reading;
}

abbrev pub plus_totals : Totals → Totals → Totals
plus_totals a b = record {
  area = a.area + b.area;
  load = a.load + b.load;
  class1 = a.class1 + b.class1;
  class2 = a.class2 + b.class2;
  litres = a.litres + b.litres;
  persons2 = a.persons2 + b.persons2;
  persons = a.persons + b.persons;
  unread = a.unread + b.unread;
  read = a.read + b.read;
  readarea = a.readarea + b.readarea;
  surface = a.surface + b.surface;
  readings = a.readings + b.readings;
}

-- the sums of document 01
abbrev pub totals_in : Sheet → Totals
totals_in s = record {
  area = total_area s;  -- P
  load = sum_of (λ u. u.heat_load) s.units;
  class1 = units_of_class 1 s;  -- n1
  class2 = units_of_class 2 s;  -- n2
  litres = litres_of_class1 s;  -- L
  persons2 = persons_of_class2 s;  -- N2
  persons = sum_of common_water_weight s.units;
  unread = sum (unread_weights s);
  read = length (read_units s);
  readarea = read_area s;  -- A
  surface = read_surface s;  -- S
  readings = reading_sum s;  -- B
}

-- at most, for n units
pub record Within (n : ℕ) (t : Totals) : Type 0 where
  pub area : t.area ≤ n * 10000
  pub load : t.load ≤ n * 100000
  pub class1 : t.class1 ≤ n * 1
  pub class2 : t.class2 ≤ n * 1
  pub litres : t.litres ≤ n * 1000000
  pub persons2 : t.persons2 ≤ n * 50
  pub persons : t.persons ≤ n * 50
  pub unread : t.unread ≤ n * 350000000
  pub read : t.read ≤ n * 1
  pub readarea : t.readarea ≤ n * 10000
  pub surface : t.surface ≤ n * 10000
  pub readings : t.readings ≤ n * 25000000

-- Several buildings on one meter (2026-04; article 7 (7), (8)): the steps of a group, once for whole Wh and for fractions, and its statements.
use Rattle.std.specs.Prelude.{Bool, true, false, ◌&&◌, ℕ, ltb, ℤ, pos, negsuc, ◌-ℤ◌, nat_abs}
use mathlib.Core.List.{List, [], ◌∷◌, ◌++◌, map, zip_with}
use Rattle.apportion.specs.Shares.{sum}
use Rattle.sheet.specs.Tests.{any}
use Rattle.sheet.specs.declared.rule_set.RuleSet.{RuleSet}
use Rattle.sheet.specs.Layout.{Sheet}
use Rattle.month.specs.Weights.{total_area}
use Rattle.month.specs.Steps.{Rounding, shares_under, whole_wh, heat_parts, energies_with}
use Rattle.month.specs.Month.{cents_for, four_and_four}

-- A group: the buildings' sheets in the order of the list, each with its own meter, whose reading is M; and the shared meter's reading.
pub record Group : Type 0 where
  pub buildings : List Sheet
  pub shared_reading : ℕ  -- Wh

-- The difference: shared reading less the sum of building readings, perhaps negative.
unfoldable pub difference : Group → ℤ
difference g = pos g.shared_reading -ℤ pos (sum (map (λ s. s.shared_meter) g.buildings))

abbrev pub is_negative : ℤ → Bool
is_negative (pos n) = false
is_negative (negsuc n) = true

-- the lists of all buildings, one after the other
unfoldable pub joined : {A : Type 0} → List (List A) → List A
joined [] = []
joined (xs ∷ xss) = xs ++ joined xss

module _ (e : Rounding) where
  open e use {Energy, wh, more, less, divided}

  -- A building's share added to what it has or, of a negative difference, taken from it.
  abbrev pub adjusted : ℤ → Energy → Energy → Energy
  adjusted (pos n) x share = more x share
  adjusted (negsuc n) x share = less x share

  module _ (rules : RuleSet) (g : Group) where
    -- The difference's size divided by the buildings' total areas, the sum of p of all units.
    unfoldable pub difference_shares : List Energy
    difference_shares = divided rules (wh (nat_abs (difference g))) (map total_area g.buildings)

    -- Each building's common heat with its share, before step 5.
    unfoldable pub common_heats : List Energy
    common_heats = zip_with (λ s share. adjusted (difference g) (heat_parts e rules s).common share) g.buildings difference_shares

    -- Each building's 4n energies.
    unfoldable pub building_energies : List (List Energy)
    building_energies = zip_with (energies_with e rules) g.buildings common_heats

    -- The energies of all units, building after building.
    unfoldable pub group_energies : List Energy
    group_energies = joined building_energies

-- The shared bill, by the sheets' price, which is the first building's.
unfoldable pub shared_price : List Sheet → ℕ
shared_price [] = 0
shared_price (s ∷ ss) = s.price

unfoldable pub shared_bill : Group → ℕ
shared_bill g = cents_for g.shared_reading (shared_price g.buildings)

module _ (rules : RuleSet) (g : Group) where
  -- The buildings' adjusted readings: M with the building's share.
  unfoldable pub adjusted_readings : List ℕ
  adjusted_readings = zip_with (λ s share. adjusted whole_wh (difference g) s.shared_meter share) g.buildings (difference_shares whole_wh rules g)

  -- The shared bill is divided over these,
  unfoldable pub bill_parts : List ℕ
  bill_parts = shares_under rules (shared_bill g) adjusted_readings

  -- and then within each building over its 4n energies.
  unfoldable pub group_costs : List ℕ
  group_costs = joined (zip_with (shares_under rules) bill_parts (building_energies whole_wh rules g))

  -- 21: a building's common heat would go below zero.
  unfoldable pub common_heat_below_zero : Bool
  common_heat_below_zero = is_negative (difference g) && any (zip_with (λ s share. ltb (heat_parts whole_wh rules s).common share) g.buildings (difference_shares whole_wh rules g))

-- The number of units of all buildings.
unfoldable pub group_units : Group → ℕ
group_units g = sum (map (λ s. s.unit_count) g.buildings)

-- The statements, building after building, 8 numbers a unit.
unfoldable pub group_statement : RuleSet → Group → List ℕ
group_statement rules g = four_and_four (group_units g) (group_energies whole_wh rules g) (group_costs rules g)

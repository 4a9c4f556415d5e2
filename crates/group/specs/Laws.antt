-- The laws of a group: what holds of every group that is accepted, by all rules (`group_laws`, proofs/Laws.antt); which divisions a group makes, by all rules
-- (`no_other_group_divisions`, proofs/Divisions.antt); and that one building with its own M as shared reading gives what `settle` gives (`one-building`,
-- proofs/OneBuilding.antt).
use Rattle.std.specs.Prelude.{Bool, ◌&&◌, ◌≡◌, ℕ, ◌+◌, ◌*◌, ◌≤◌, ◌<◌, ltb, nat_abs, length, get_or, take, Ok}
use mathlib.Core.List.{List, [], ◌∷◌, map, zip_with}
use Rattle.apportion.specs.Shares.{sum}
use Rattle.sheet.specs.Tests.{any, Each}
use Rattle.sheet.specs.declared.rule_set.RuleSet.{RuleSet}
use Rattle.sheet.specs.Layout.{sheet_of}
use Rattle.month.specs.Fraction.{◌over◌, Near}
use Rattle.month.specs.Weights.{total_area}
use Rattle.month.specs.Steps.{Method, dividing_by, whole_wh, unrounded, heat_parts}
use Rattle.month.specs.Laws.{Division, ◌by◌, divisions_with, Divisible, DoesAsShares, sum_to}
use Rattle.settlement.specs.Settle.{settle_answer, statement_after}
use Rattle.group.specs.declared.buildings.Building.{Building}
use Rattle.group.specs.Group.{Group, difference, is_negative, joined, adjusted, difference_shares, common_heats, building_energies, group_energies, shared_bill, adjusted_readings, bill_parts, group_costs, common_heat_below_zero, group_units, group_statement}
use Rattle.group.specs.Answer.{part_of, parts_of, group_of, refusal_or, group_answer, group_after}

-- ---- the divisions of a group: the difference's, the shared bill's, and those of each building's steps
unfoldable pub group_divisions : RuleSet → Group → List Division
group_divisions rules g =
    nat_abs (difference g) by map total_area g.buildings
    ∷ shared_bill g by adjusted_readings rules g
    ∷ joined (zip_with (λ f bill. f bill) (zip_with (divisions_with rules) g.buildings (common_heats whole_wh rules g)) (bill_parts rules g))

-- What a group comes to by any method of dividing, as specs/Group.antt has it by `shares_under`: whether 21 refuses it, and its costs.
module _ (divide : Method) (rules : RuleSet) (g : Group) where
  abbrev pub below_zero_by : Bool
  below_zero_by =
      is_negative (difference g) && any (zip_with (λ s share. ltb (heat_parts (dividing_by divide) rules s).common share) g.buildings (difference_shares (dividing_by divide) rules g))

  abbrev pub readings_by : List ℕ
  readings_by = zip_with (λ s share. adjusted whole_wh (difference g) s.shared_meter share) g.buildings (difference_shares (dividing_by divide) rules g)

  abbrev pub costs_by : List ℕ
  costs_by = joined (zip_with (divide rules) (divide rules (shared_bill g) readings_by) (building_energies (dividing_by divide) rules g))

-- Any group makes these divisions and no others: by a method that does as `shares_under` on them it comes out the same.
pub record SameGroup (rules : RuleSet) (g : Group) (divide : Method) : Type 0 where
  pub same_refusal : below_zero_by divide rules g ≡ common_heat_below_zero rules g
  pub same-energies : group_energies (dividing_by divide) rules g ≡ group_energies whole_wh rules g
  pub same-costs : costs_by divide rules g ≡ group_costs rules g

abbrev pub NoOtherGroupDivisions : Type 0
NoOtherGroupDivisions = (rules : RuleSet) (g : Group) (divide : Method) → Each (DoesAsShares rules divide) (group_divisions rules g) → SameGroup rules g divide

-- number k of unit u, the units of all buildings counted one after the other
abbrev pub number_at : List ℕ → (u k : ℕ) → ℕ
number_at numbers u k = get_or numbers (8 * u + k) 0

-- how many units stand before building i
abbrev pub units_before : Group → ℕ → ℕ
units_before g i = sum (take i (map (λ s. s.unit_count) g.buildings))

abbrev pub units_in : Group → ℕ → ℕ
units_in g i = get_or (map (λ s. s.unit_count) g.buildings) i 0

pub record GroupLaws (rules : RuleSet) (g : Group) (numbers : List ℕ) : Type 0 where
  pub is-statement : numbers ≡ group_statement rules g
  pub count : length numbers ≡ 8 * group_units g
  pub fit_32_bits : Each (λ x. x < 4294967296) numbers
  -- all units' energies add to the shared reading, all cents to the shared bill
  pub energies_add : sum_to (group_units g) (λ u. sum_to 4 (λ j. number_at numbers u j)) ≡ g.shared_reading
  pub cents_add : sum_to (group_units g) (λ u. sum_to 4 (λ j. number_at numbers u (4 + j))) ≡ shared_bill g
  -- each building's energies add to its adjusted reading
  pub building_adds : (i : ℕ) → i < length g.buildings → sum_to (units_in g i) (λ u. sum_to 4 (λ j. number_at numbers (units_before g i + u) j)) ≡ get_or (adjusted_readings rules g) i 0
  -- each energy is at most 4 Wh from its portion, the same steps with fractions, the difference's share included
  pub energy_near : (u j : ℕ) → u < group_units g → j < 4 → Near (number_at numbers u j) (get_or (group_energies unrounded rules g) (4 * u + j) (0 over 1)) 4
  -- W = 0 with T > 0 never arises
  pub divisible : Each Divisible (group_divisions rules g)

abbrev pub AcceptedLaws : Type 0
AcceptedLaws =
    (rules : RuleSet) (buffer : List ℕ) (bs : List Building) (reading : ℕ) (list : List ℕ)
    → group_answer rules buffer bs reading list ≡ Ok tt
    → GroupLaws rules (group_of (parts_of buffer bs) reading) (group_after rules buffer bs reading list)

-- ---- one building whose shared reading is its M: the answer and the list are those of `settle`
abbrev pub OneBuilding : Type 0
OneBuilding =
    (rules : RuleSet) (buffer : List ℕ) (b : Building) (list : List ℕ)
    → let part = part_of buffer b in
    let reading = (sheet_of part).shared_meter in
    b.offset + b.length ≤ length buffer → reading ≤ 4000000000
    → (group_answer rules buffer (b ∷ []) reading list ≡ refusal_or 0 (settle_answer rules part list) (Ok tt)) × (group_after rules buffer (b ∷ []) reading list ≡ statement_after rules part list)

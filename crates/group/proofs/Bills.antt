-- The shared bill's division over the buildings and within each: every division of a group has weights. Assumes nothing.
use mathlib.Core.Path.{◌≡◌, sym, ap, ◌∙◌}
use mathlib.Core.List.{List, [], ◌∷◌, zip_with}
use Prim.Native.Nat.{ℕ, suc, ◌+◌, ◌*◌, ◌/◌}
use native.Mathlib.Omega.{arith}
use native.Mathlib.Nat.{zero-mul}
use lib.ListN.{length, get_or}
use Rattle.apportion.specs.Shares.{sum}
use Rattle.apportion.specs.Fair.{Fair}
use Rattle.sheet.specs.Tests.{Each}
use Rattle.sheet.specs.declared.rule_set.RuleSet.{RuleSet}
use Rattle.sheet.specs.Layout.{Sheet}
use Rattle.month.specs.Steps.{shares_under, whole_wh, energies_with}
use Rattle.month.specs.Laws.{◌by◌, divisions_with, Divisible}
use Rattle.month.specs.Inner.Accepted.{AcceptedSheet}
use Rattle.month.proofs.Lists.{each_append}
use Rattle.month.proofs.Divisions.{under-fair, all-divisible}
use Rattle.group.specs.Group.{Group, joined, common_heats, building_energies, shared_price, shared_bill, adjusted_readings, bill_parts, group_costs, group_units}
use Rattle.group.specs.Laws.{group_divisions}
use Rattle.group.specs.Inner.Accepted.{AcceptedGroup}
use Rattle.group.proofs.Lists.{Beside, none, one, Fours, joined_length, AddTo, joined-sum}
use Rattle.group.proofs.Readings.{difference-divisible, readings_add, building-fours, building-sums}

-- ---- within each building
abbrev pub DivisibleBy : ℕ → List ℕ → Type 0
DivisibleBy part es = Divisible (part by es)

-- what adds to 0 gets no part
parts_divisible : {rs : List ℕ} {ess : List (List ℕ)} → Beside AddTo rs ess → (parts : List ℕ) → length parts ≡ length rs
    → ((i : ℕ) → get_or rs i 0 ≡ 0 → get_or parts i 0 ≡ 0) → Beside DivisibleBy parts ess
parts_divisible none [] l h = none
parts_divisible none (p ∷ ps) l h = absurd (omega arith)
parts_divisible (one r rs) [] l h = absurd (omega arith)
parts_divisible (one r rs) (p ∷ ps) l h = one (λ e. h 0 (sym r ∙ e)) (parts_divisible rs ps (omega arith) (λ i. h (suc i)))

module _ (rules : RuleSet) where
  costs-fours : {ns parts : List ℕ} {ess : List (List ℕ)} → Beside Fours ns ess → Beside DivisibleBy parts ess → Beside Fours ns (zip_with (shares_under rules) parts ess)
  unfolding zip_with
  costs-fours none none = none
  costs-fours (one {y = es} f fs) (one {x = part} d ds) = one ((under-fair rules part es d).as_many ∙ f) (costs-fours fs ds)

  costs-sums : {parts : List ℕ} {ess : List (List ℕ)} → Beside DivisibleBy parts ess → Beside AddTo parts (zip_with (shares_under rules) parts ess)
  unfolding zip_with
  costs-sums none = none
  costs-sums (one {x = part} {y = es} d ds) = one (under-fair rules part es d).adds_up (costs-sums ds)

  steps_divisible : (ss : List Sheet) (heats : List ℕ) {parts : List ℕ} → Each AcceptedSheet ss → Beside DivisibleBy parts (zip_with (energies_with whole_wh rules) ss heats)
      → Each Divisible (joined (zip_with (λ f bill. f bill) (zip_with (divisions_with rules) ss heats) parts))
  unfolding zip_with joined
  steps_divisible [] heats a ds = tt
  steps_divisible (s ∷ ss) [] a ds = tt
  steps_divisible (s ∷ ss) (heat ∷ heats) a (one {x = part} d ds) =
      each_append Divisible (divisions_with rules s heat part) _ (all-divisible rules s a.0 heat part d) (steps_divisible ss heats a.1 ds)

-- ---- the shared bill
module _ (rules : RuleSet) (g : Group) (a : AcceptedGroup rules g) where
  pub bill-divisible : Divisible (shared_bill g by adjusted_readings rules g)
  unfolding shared_bill
  bill-divisible e =
      let price = shared_price g.buildings in
      let z : g.shared_reading ≡ 0 = sym (readings_add rules g a) ∙ e in
      ap (λ (m : ℕ). (m * price + 500000) / 1000000) z ∙ ap (λ (c : ℕ). (c + 500000) / 1000000) (zero-mul price)

  pub parts_fair : Fair (shared_bill g) (adjusted_readings rules g) (bill_parts rules g)
  unfolding bill_parts
  parts_fair = under-fair rules (shared_bill g) (adjusted_readings rules g) bill-divisible

  -- EACH BUILDING'S PART OF THE BILL IS DIVISIBLE OVER ITS ENERGIES
  pub building-divisible : Beside DivisibleBy (bill_parts rules g) (building_energies whole_wh rules g)
  building-divisible = parts_divisible (building-sums rules g a) (bill_parts rules g) parts_fair.as_many parts_fair.none_for_none

  pub costs-length : length (group_costs rules g) ≡ 4 * group_units g
  unfolding group_costs group_units
  costs-length = joined_length (costs-fours rules (building-fours rules g a) building-divisible)

  -- ALL CENTS ADD TO THE SHARED BILL
  pub costs-sum : sum (group_costs rules g) ≡ shared_bill g
  unfolding group_costs
  costs-sum = joined-sum (costs-sums rules building-divisible) ∙ parts_fair.adds_up

  -- NO DIVISION MEETS W = 0 WITH T > 0
  pub group-divisible : Each Divisible (group_divisions rules g)
  unfolding group_divisions building_energies
  group-divisible =
      (difference-divisible g a.checked-group, (bill-divisible, steps_divisible rules g.buildings (common_heats whole_wh rules g) a.checked-group.each building-divisible))

-- What each division goes by, that it fits, and what one over all units gives. Assumes nothing.
use mathlib.Core.Path.{◌≡◌, refl, sym, ap, subst, ◌∙◌}
use mathlib.Core.Bool.{true}
use mathlib.Core.List.{List, [], ◌∷◌, ◌++◌, map, append-nil}
use Prim.Native.Nat.{ℕ, ◌^◌, ◌≤◌, ◌<◌}
use native.Mathlib.Omega.{arith}
use borrow.Author.Tests.{eq-eqb, ne_eqb}
use lib.ListN.{length, take, drop, length-map, drop_of_length-le, replicate}
use lib.Seq.{take_at}
use Rattle.apportion.specs.Shares.{sum, key_by}
use Rattle.apportion.proofs.Laws.{shares-none, shares-fair}
use Rattle.sheet.specs.declared.rule_set.RuleSet.{RuleSet}
use Rattle.sheet.specs.RuleSets.{ties}
use Rattle.sheet.specs.Layout.{UnitRow, Sheet}
use Rattle.month.specs.Weights.{those, all_metered, total_area, unread_weights, read_weights}
use Rattle.month.specs.Steps.{shares_under, whole_wh, heat, common_heat, water_parts, water, common_water}
use Rattle.month.specs.Inner.Accepted.{CheckedSheet, AcceptedSheet}
use Rattle.month.proofs.Accepted.{load-positive, area-positive}
use Rattle.month.proofs.Bounds.{those-fewer, sum_bounds, weight_bounds}
use Rattle.month.proofs.Divisions.{units-heat, water-divisible, common_water-divisible}
use Rattle.month.proofs.DivisionBounds.{units_heat_le, units_water_le, common_water_le}
use Rattle.weights.specs.Inner.By.{takes_part, weight_of, weights_by}
use Rattle.weights.specs.Inner.Months.{sheet_of_month}
use Rattle.weights.specs.declared.gather.By.{By}
use Rattle.weights.specs.declared.gather.By.TheVariants.{Load, Area, Unread, Read, Water, Persons}
use Rattle.weights.specs.declared.accepted.Month.{Month}
use Rattle.weights.proofs.Ready.{month_accepted}
use Rattle.settlement.specs.Inner.Division.{Divides, Shared}
use Rattle.settlement.proofs.Parts.{front_untouched}

-- the shares at the front of a longer list
pub front_shares : (rules : RuleSet) (total k : ℕ) (ws out rest : List ℕ) → length ws ≡ k → (sum ws ≡ 0 → total ≡ 0) → out ≡ shares_under rules total ws ++ rest
    → take k out ≡ shares_under rules total ws
front_shares rules total k ws out rest many h e = ap (take k) e ∙ take_at (shares_under rules total ws) rest k ((shares-fair (ties rules) total ws h).as_many ∙ many)

-- the shares alone, where the list was as long as the weights
pub all_shares : (rules : RuleSet) (total : ℕ) (ws before : List ℕ) {out : List ℕ} → length before ≡ length ws → out ≡ shares_under rules total ws ++ drop (length ws) before
    → out ≡ shares_under rules total ws
all_shares rules total ws before many e =
    e ∙ ap (λ (rest : List ℕ). shares_under rules total ws ++ rest) (drop_of_length-le before (omega arith)) ∙ append-nil (shares_under rules total ws)

pub those-all : (us : List UnitRow) → those (λ u. true) us ≡ us
those-all [] = refl
those-all (u ∷ us) = ap (λ (r : List UnitRow). u ∷ r) (those-all us)

-- every unit takes part
abbrev All : By → Type 0
All by = takes_part by ≡ (λ (u : UnitRow). true)

of_all_lem : (rules : RuleSet) (s : Sheet) (by : By) → All by → weights_by rules by s ≡ map (weight_of rules by s) s.units
unfolding weights_by
of_all_lem rules s by all = rw (all, those-all)

-- EVERY DIVISION'S WEIGHTS FIT
pub weights_fit : (rules : RuleSet) (s : Sheet) → CheckedSheet s → (by : By) → sum (weights_by rules by s) < 2 ^ 62
unfolding weights_by total_area unread_weights read_weights
weights_fit rules s c Load = rw those-all (omega (arith, (sum_bounds s c).heat_loads))
weights_fit rules s c Area = rw those-all (omega (arith, (sum_bounds s c).total_area_lem))
weights_fit rules s c Unread = omega (arith, (weight_bounds s c rules).unread)
weights_fit rules s c Read = omega (arith, (weight_bounds s c rules).read)
weights_fit rules s c Water = rw those-all (omega (arith, (weight_bounds s c rules).water))
weights_fit rules s c Persons = rw those-all (omega (arith, (sum_bounds s c).persons))

module _ (month : Month) where
  abbrev s : Sheet
  s = sheet_of_month month

  abbrev rules : RuleSet
  rules = month.basis.rules

  pub accepted : AcceptedSheet s
  accepted = month_accepted month

  -- ---- each division over all units can be made
  divides : (by : By) → All by → (total : ℕ) → total ≤ 4000000000 → (sum (map (weight_of rules by s) s.units) ≡ 0 → total ≡ 0) → Divides total (weights_by rules by s)
  divides by all total h d = (omega arith, rw (of_all_lem rules s by all) d)

  pub load-heat : s.model ≡ 1 → Divides (units-heat rules s) (weights_by rules Load s)
  load-heat m = divides Load refl (units-heat rules s) (units_heat_le rules s accepted) (λ z. absurd (omega (arith, load-positive s accepted m)))

  pub by_area_lem : (total : ℕ) → total ≤ 4000000000 → Divides total (weights_by rules Area s)
  by_area_lem total h = divides Area refl total h (λ z. absurd (omega (arith, area-positive s accepted)))

  pub area-heat : Divides (units-heat rules s) (weights_by rules Area s)
  area-heat = by_area_lem (units-heat rules s) (units_heat_le rules s accepted)

  pub weighed_water : Divides (water_parts whole_wh rules s).of_units (weights_by rules Water s)
  weighed_water = divides Water refl (water_parts whole_wh rules s).of_units (units_water_le rules s accepted) (water-divisible rules s accepted)

  pub persons-water : Divides (water_parts whole_wh rules s).common (weights_by rules Persons s)
  persons-water = divides Persons refl (water_parts whole_wh rules s).common (common_water_le rules s accepted) (common_water-divisible rules s accepted)

  -- ---- nothing divided
  pub zeros_shared : (by : By) {total : ℕ} {out : List ℕ} → total ≡ 0 → out ≡ replicate 160 0 → Shared rules total (weights_by rules by s) out
  unfolding weights_by
  zeros_shared by z e =
      let us = those (takes_part by) s.units in
      let few : length (map (weight_of rules by s) us) ≤ 160 = omega (arith, length-map us (weight_of rules by s), those-fewer (takes_part by) s.units, accepted.checked-sheet.unit_count_lem, accepted.checked-sheet.header.unit_count) in
      rw (z, e) (front_untouched _ 160 0 few ∙ sym (shares-none (key_by (ties rules)) (map (weight_of rules by s) us)))

  -- ---- what each gives: a number for each unit
  module _ {total : ℕ} (out : List ℕ) where
    over-units : (by : By) → All by → {whole : ℕ} → total ≡ whole → Shared rules total (weights_by rules by s) out → take s.unit_count out ≡ shares_under rules whole (map (weight_of rules by s) s.units)
    over-units by all {whole} e g =
        let k : length (weights_by rules by s) ≡ s.unit_count = ap length (of_all_lem rules s by all) ∙ length-map s.units (weight_of rules by s) ∙ accepted.checked-sheet.unit_count_lem in
        subst (λ (j : ℕ). take j out ≡ shares_under rules whole (map (weight_of rules by s) s.units)) k (g ∙ rw (e, of_all_lem rules s by all))

    pub load_is : s.model ≡ 1 → total ≡ units-heat rules s → Shared rules total (weights_by rules Load s) out → take s.unit_count out ≡ heat whole_wh rules s
    unfolding heat all_metered
    load_is m e g = rw (ne_eqb s.model 5 (λ z. omega arith), eq-eqb s.model 1 m) (over-units Load refl e g)

    pub area-is : s.model ≡ 2 → total ≡ units-heat rules s → Shared rules total (weights_by rules Area s) out → take s.unit_count out ≡ heat whole_wh rules s
    unfolding heat all_metered
    area-is m e g = rw (ne_eqb s.model 5 (λ z. omega arith), ne_eqb s.model 1 (λ z. omega arith), eq-eqb s.model 2 m) (over-units Area refl e g)

    pub common_heat-is : {whole : ℕ} → total ≡ whole → Shared rules total (weights_by rules Area s) out → take s.unit_count out ≡ common_heat whole_wh rules s whole
    unfolding common_heat
    common_heat-is e g = over-units Area refl e g

    pub water-is : total ≡ (water_parts whole_wh rules s).of_units → Shared rules total (weights_by rules Water s) out → take s.unit_count out ≡ water whole_wh rules s
    unfolding water
    water-is e g = over-units Water refl e g

    pub common_water-is : total ≡ (water_parts whole_wh rules s).common → Shared rules total (weights_by rules Persons s) out → take s.unit_count out ≡ common_water whole_wh rules s
    unfolding common_water
    common_water-is e g = over-units Persons refl e g

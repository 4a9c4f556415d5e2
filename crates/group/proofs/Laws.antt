-- THE LAWS OF A GROUP (specs/Laws.antt). Assumes nothing.
use mathlib.Core.Path.{◌≡◌, refl, sym, subst, ◌∙◌}
use mathlib.Core.List.{[], map}
use Prim.Native.Nat.{ℕ, ◌+◌, ◌*◌, ◌<◌}
use native.Mathlib.Omega.{arith}
use lib.ListN.{length, get_or, length-map}
use Rattle.sheet.specs.declared.rule_set.RuleSet.{RuleSet}
use Rattle.month.specs.Steps.{whole_wh}
use Rattle.month.specs.Laws.{sum_to}
use Rattle.month.proofs.Lists.{sum_to_cong, sum-by-fours, rows-length, row-energy, row_cost, each_below, rows-below}
use Rattle.group.specs.Group.{Group, group_energies, adjusted_readings, group_costs, group_units, group_statement}
use Rattle.group.specs.Laws.{units_before, units_in, GroupLaws, AcceptedLaws}
use Rattle.group.specs.Inner.Accepted.{AcceptedGroup}
use Rattle.group.proofs.Lists.{as_many, at, sum_of-part, up_to-part}
use Rattle.group.proofs.Answers.{group_in, accepted-group, statements_written}
use Rattle.group.proofs.Bounds.{bill_le}
use Rattle.group.proofs.Readings.{building-fours, building-sums, energies-length, energies-sum}
use Rattle.group.proofs.Bills.{costs-length, costs-sum, group-divisible}
use Rattle.group.proofs.Near.{energies_near}

module _ (rules : RuleSet) (g : Group) (a : AcceptedGroup rules g) where
  before_end : (i u : ℕ) → u < units_in g i → units_before g i + u < group_units g
  unfolding group_units
  before_end i u h = omega (arith, up_to-part (map (λ s. s.unit_count) g.buildings) i)

  building_energies_lem : (i : ℕ) → i < length g.buildings
      → sum_to (units_in g i) (λ u. sum_to 4 (λ j. get_or (group_energies whole_wh rules g) (4 * (units_before g i + u) + j) 0)) ≡ get_or (adjusted_readings rules g) i 0
  unfolding group_energies
  building_energies_lem i h =
      let counts = map (λ s. s.unit_count) g.buildings in
      let fours = building-fours rules g a in
      let sums = building-sums rules g a in
      let l : i < length counts = omega (arith, length-map g.buildings (λ s. s.unit_count)) in
      sum_of-part fours i l ∙ at sums i 0 [] (omega (arith, as_many fours, as_many sums))

  pub statement-laws : GroupLaws rules g (group_statement rules g)
  unfolding group_statement
  statement-laws =
      let n = group_units g in
      let es = group_energies whole_wh rules g in
      let cs = group_costs rules g in
      let xs = group_statement rules g in
      let le : length es ≡ 4 * n = energies-length rules g a in
      let lc : length cs ≡ 4 * n = costs-length rules g a in
      let energy : (u j : ℕ) → u < n → j < 4 → get_or xs (8 * u + j) 0 ≡ get_or es (4 * u + j) 0 = λ u j h l. row-energy n es cs u j le lc h l in
      let cost : (u j : ℕ) → u < n → j < 4 → get_or xs (8 * u + (4 + j)) 0 ≡ get_or cs (4 * u + j) 0 = λ u j h l. row_cost n es cs u j le lc h l in
      record {
        is-statement = refl;
        count = rows-length n es cs le lc;
        fit_32_bits = rows-below 4294967296 n es cs
            (each_below 4294967296 es (omega (arith, energies-sum rules g a, a.checked-group.reading)))
            (each_below 4294967296 cs (omega (arith, costs-sum rules g a, bill_le g a.checked-group)));
        energies_add = sum_to_cong n _ _ (λ u h. sum_to_cong 4 _ _ (λ j l. energy u j h l)) ∙ sum-by-fours n es le ∙ energies-sum rules g a;
        cents_add = sum_to_cong n _ _ (λ u h. sum_to_cong 4 _ _ (λ j l. cost u j h l)) ∙ sum-by-fours n cs lc ∙ costs-sum rules g a;
        building_adds = λ i h. sum_to_cong (units_in g i) _ _ (λ u k. sum_to_cong 4 _ _ (λ j l. energy (units_before g i + u) j (before_end i u k) l)) ∙ building_energies_lem i h;
        energy_near = λ u j h l. rw (energy u j h l) ((energies_near rules g a).at (4 * u + j));
        divisible = group-divisible rules g a;
      }

pub group_laws : AcceptedLaws
group_laws rules buffer bs reading list e =
    let g = group_in buffer bs reading in
    subst (GroupLaws rules g) (sym (statements_written rules buffer bs reading list e)) (statement-laws rules g (accepted-group rules buffer bs reading list e))

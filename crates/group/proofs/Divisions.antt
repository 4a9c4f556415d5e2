-- A group makes no other divisions than its list's. Assumes nothing.
use mathlib.Core.Path.{◌≡◌, refl, ap, ap₂, ◌∙◌}
use mathlib.Core.Bool.{Bool, ◌&&◌}
use mathlib.Core.List.{List, [], ◌∷◌, zip_with}
use Prim.Native.Nat.{ℕ}
use native.Mathlib.Omega.{arith}
use lib.Dec.{ltb}
use lib.IntN.{ℤ, pos, negsuc}
use lib.ListN.{length}
use Rattle.apportion.specs.Shares.{key_by}
use Rattle.apportion.proofs.Laws.{length-shares}
use Rattle.sheet.specs.Tests.{any, Each}
use Rattle.sheet.specs.declared.rule_set.RuleSet.{RuleSet}
use Rattle.sheet.specs.RuleSets.{ties}
use Rattle.sheet.specs.Layout.{Sheet}
use Rattle.month.specs.Steps.{Method, shares_under, dividing_by, whole_wh, heat_parts, energies_with}
use Rattle.month.specs.Laws.{divisions_with, DoesAsShares}
use Rattle.month.proofs.Lists.{each_parts}
use Rattle.month.proofs.Divisions.{same-common, same_with}
use Rattle.group.specs.Group.{difference, is_negative, joined, adjusted, difference_shares, common_heats, building_energies, group_energies, shared_bill, adjusted_readings, bill_parts, group_costs, common_heat_below_zero}
use Rattle.group.specs.Laws.{group_divisions, readings_by, NoOtherGroupDivisions}
use Rattle.group.proofs.Readings.{readings_of, heats_of, energies_of}

-- ---- building by building: z is the difference, xs its shares
module _ (divide : Method) (rules : RuleSet) (z : ℤ) where
  same-adjusted : (d : ℤ) (x share : ℕ) → adjusted (dividing_by divide) d x share ≡ adjusted whole_wh d x share
  same-adjusted (pos n) x share = refl
  same-adjusted (negsuc n) x share = refl

  record SameBuildings (ss : List Sheet) (xs parts : List ℕ) : Type 0 where
    below : zip_with (λ s share. ltb (heat_parts (dividing_by divide) rules s).common share) ss xs ≡ zip_with (λ s share. ltb (heat_parts whole_wh rules s).common share) ss xs
    heats : zip_with (λ s share. adjusted (dividing_by divide) z (heat_parts (dividing_by divide) rules s).common share) ss xs ≡ heats_of rules z ss xs
    energies : zip_with (energies_with (dividing_by divide) rules) ss (heats_of rules z ss xs) ≡ energies_of rules z ss xs
    costs : zip_with (divide rules) parts (energies_of rules z ss xs) ≡ zip_with (shares_under rules) parts (energies_of rules z ss xs)

  same-buildings : (ss : List Sheet) (xs parts : List ℕ) → length parts ≡ length (readings_of z ss xs)
      → Each (DoesAsShares rules divide) (joined (zip_with (λ f bill. f bill) (zip_with (divisions_with rules) ss (heats_of rules z ss xs)) parts)) → SameBuildings ss xs parts
  unfolding zip_with joined
  same-buildings [] xs [] l h = record { below = refl; heats = refl; energies = refl; costs = refl }
  same-buildings [] xs (p ∷ ps) l h = absurd (omega arith)
  same-buildings (s ∷ ss) [] [] l h = record { below = refl; heats = refl; energies = refl; costs = refl }
  same-buildings (s ∷ ss) [] (p ∷ ps) l h = absurd (omega arith)
  same-buildings (s ∷ ss) (x ∷ xs) [] l h = absurd (omega arith)
  same-buildings (s ∷ ss) (x ∷ xs) (p ∷ ps) l h =
      let heat = adjusted whole_wh z (heat_parts whole_wh rules s).common x in
      let k = each_parts (DoesAsShares rules divide) (divisions_with rules s heat p) _ h in
      let c = same-common divide rules s heat p k.0 in
      let same = same_with divide rules s heat p k.0 in
      let rest = same-buildings ss xs ps (omega arith) k.1 in
      record {
        below = λ i. ltb (c i) x ∷ rest.below i;
        heats = ap₂ ◌∷◌ (same-adjusted z _ x ∙ ap (λ (m : ℕ). adjusted whole_wh z m x) c) rest.heats;
        energies = λ i. same.0 i ∷ rest.energies i;
        costs = λ i. same.1 i ∷ rest.costs i;
      }

-- A GROUP MAKES NO OTHER DIVISIONS
pub no_other_group_divisions : NoOtherGroupDivisions
unfolding group_divisions difference_shares common_heats building_energies group_energies adjusted_readings bill_parts group_costs common_heat_below_zero
no_other_group_divisions rules g divide h =
    let z = difference g in
    let ss = g.buildings in
    let e = dividing_by divide in
    let xs = difference_shares whole_wh rules g in
    let readings = adjusted_readings rules g in
    let parts = bill_parts rules g in
    let shares : difference_shares e rules g ≡ xs = h.0 in
    let same = same-buildings divide rules z ss xs parts (length-shares (key_by (ties rules)) (shared_bill g) readings) h.1.1 in
    let heats : common_heats e rules g ≡ common_heats whole_wh rules g = ap (zip_with (λ s share. adjusted e z (heat_parts e rules s).common share) ss) shares ∙ same.heats in
    let energies : building_energies e rules g ≡ building_energies whole_wh rules g = ap (zip_with (energies_with e rules) ss) heats ∙ same.energies in
    let bill : divide rules (shared_bill g) (readings_by divide rules g) ≡ parts = ap (λ (ys : List ℕ). divide rules (shared_bill g) (readings_of z ss ys)) shares ∙ h.1.0 in
    record {
      same_refusal = ap (λ (ys : List ℕ). is_negative z && any (zip_with (λ s share. ltb (heat_parts e rules s).common share) ss ys)) shares
          ∙ ap (λ (bs : List Bool). is_negative z && any bs) same.below;
      same-energies = ap joined energies;
      same-costs = ap joined (ap₂ (zip_with (divide rules)) bill energies ∙ same.costs);
    }

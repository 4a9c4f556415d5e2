-- Each energy of a group is near its portion. Assumes nothing.
use mathlib.Core.Path.{◌≡◌, refl, sym, ◌∙◌}
use mathlib.Core.List.{List, [], ◌∷◌, map, zip_with}
use Prim.Native.Nat.{ℕ}
use native.Mathlib.Omega.{arith}
use lib.IntN.{ℤ, pos, negsuc, nat_abs}
use lib.ListN.{length, length-map}
use Rattle.sheet.specs.declared.rule_set.RuleSet.{RuleSet}
use Rattle.sheet.specs.Layout.{Sheet}
use Rattle.month.specs.Fraction.{Fraction, Near, portions}
use Rattle.month.specs.Weights.{total_area}
use Rattle.month.specs.Steps.{whole_wh, unrounded, heat_parts, energies_with}
use Rattle.month.proofs.Nearness.{NearAll, near_whole, near_add, near_less, near_divided}
use Rattle.month.proofs.Lists.{near_nil, near_tail}
use Rattle.month.proofs.Divisions.{common_heat_lem}
use Rattle.month.proofs.Sums.{with_length}
use Rattle.month.proofs.Laws.{near_heat_parts, with_near}
use Rattle.group.specs.Group.{Group, difference, joined, adjusted, difference_shares, common_heats, building_energies, group_energies}
use Rattle.group.specs.Inner.Accepted.{AcceptedGroup}
use Rattle.group.proofs.Lists.{Beside, none, one, near_append}
use Rattle.group.proofs.Readings.{Covered, shares-fair, covered}

module _ (rules : RuleSet) where
  -- the common heat is within 2, the share within 1
  near_adjusted : (z : ℤ) {s : Sheet} {share : ℕ} {f : Fraction} → Covered rules z s share → Near share f 1
      → Near (adjusted whole_wh z (common_heat_lem rules s) share) (adjusted unrounded z (heat_parts unrounded rules s).common f) 3
  near_adjusted (pos n) {s} h near = near_add (near_heat_parts rules s h.accepted).1 near
  near_adjusted (negsuc n) {s} h near = near_less (near_heat_parts rules s h.accepted).1 near (h.enough refl)

  near_joined : {z : ℤ} {ss : List Sheet} {shares : List ℕ} → Beside (Covered rules z) ss shares → (fs : List Fraction) → length fs ≡ length shares → NearAll shares fs 1
      → NearAll (joined (zip_with (energies_with whole_wh rules) ss (zip_with (λ s share. adjusted whole_wh z (heat_parts whole_wh rules s).common share) ss shares)))
      (joined (zip_with (energies_with unrounded rules) ss (zip_with (λ s share. adjusted unrounded z (heat_parts unrounded rules s).common share) ss fs))) 4
  unfolding zip_with joined
  near_joined none fs e n = near_nil 4
  near_joined (one h hs) [] e n = absurd (omega arith)
  near_joined {z} (one {x = s} h hs) (f ∷ fs) e n =
      near_append _ _ (with_length whole_wh rules s _ ∙ sym (with_length unrounded rules s _))
      (with_near rules s h.accepted (near_adjusted z h (n.at 0))) (near_joined hs fs (omega arith) (near_tail n))

module _ (rules : RuleSet) (g : Group) (a : AcceptedGroup rules g) where
  near_shares : NearAll (difference_shares whole_wh rules g) (difference_shares unrounded rules g) 1
  unfolding difference_shares
  near_shares = near_divided (shares-fair g a.checked-group rules) (near_whole (nat_abs (difference g)))

  portions-length : length (difference_shares unrounded rules g) ≡ length (difference_shares whole_wh rules g)
  unfolding difference_shares portions
  portions-length = length-map (map total_area g.buildings) _ ∙ sym (shares-fair g a.checked-group rules).as_many

  -- EACH ENERGY IS WITHIN 4 Wh OF ITS PORTION, the difference's share included
  pub energies_near : NearAll (group_energies whole_wh rules g) (group_energies unrounded rules g) 4
  unfolding group_energies building_energies common_heats
  energies_near = near_joined rules (covered rules g a) (difference_shares unrounded rules g) portions-length near_shares

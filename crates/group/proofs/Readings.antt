-- The difference's shares, the adjusted readings, and the energies of each building, which add to them. Assumes nothing.
use mathlib.Core.Path.{◌≡◌, refl, ap, ◌∙◌}
use mathlib.Core.Bool.{true}
use mathlib.Core.List.{List, [], ◌∷◌, map, zip_with}
use Prim.Native.Nat.{ℕ, suc, ◌+◌, ◌*◌, ◌≤◌, ◌<◌}
use native.Mathlib.Omega.{arith}
use native.Mathlib.Decide.{dec_lt}
use lib.IntN.{ℤ, pos, negsuc, nat_abs}
use lib.ListN.{length, get_or, length-map, get_or-eq_default}
use Rattle.apportion.specs.Shares.{sum}
use Rattle.apportion.specs.Fair.{Fair}
use Rattle.sheet.specs.Tests.{Each}
use Rattle.sheet.specs.declared.rule_set.RuleSet.{RuleSet}
use Rattle.sheet.specs.Layout.{Sheet}
use Rattle.month.specs.Weights.{total_area}
use Rattle.month.specs.Steps.{whole_wh, space_heat, heat_parts, energies_with}
use Rattle.month.specs.Laws.{◌by◌, Divisible}
use Rattle.month.specs.Inner.Accepted.{AcceptedSheet}
use Rattle.month.proofs.Nearness.{up, down, item_le}
use Rattle.month.proofs.Accepted.{area-positive}
use Rattle.month.proofs.Divisions.{under-fair, common_heat_lem}
use Rattle.month.proofs.Sums.{heat_parts_lem, with_length, with_sum}
use Rattle.group.specs.Group.{Group, difference, is_negative, adjusted, difference_shares, common_heats, building_energies, group_energies, adjusted_readings, group_units}
use Rattle.group.specs.Inner.Accepted.{CheckedGroup, AcceptedGroup}
use Rattle.group.proofs.Bounds.{difference_parts}
use Rattle.group.proofs.Lists.{Beside, none, one, at, Fours, joined_length, AddTo, joined-sum}

-- ---- the difference's division
pub areas_positive : (ss : List Sheet) → 0 < length ss → Each AcceptedSheet ss → 0 < sum (map total_area ss)
unfolding total_area
areas_positive [] h e = absurd (omega arith)
areas_positive (s ∷ ss) h e = omega (arith, area-positive s e.0)

module _ (g : Group) (c : CheckedGroup g) where
  pub difference-divisible : Divisible (nat_abs (difference g) by map total_area g.buildings)
  difference-divisible e = absurd (omega (arith, areas_positive g.buildings c.some c.each))

  pub shares-fair : (rules : RuleSet) → Fair (nat_abs (difference g)) (map total_area g.buildings) (difference_shares whole_wh rules g)
  unfolding difference_shares
  shares-fair rules = under-fair rules (nat_abs (difference g)) (map total_area g.buildings) difference-divisible

  pub shares-length : (rules : RuleSet) → length (difference_shares whole_wh rules g) ≡ length g.buildings
  shares-length rules = (shares-fair rules).as_many ∙ length-map g.buildings total_area

-- ---- a building with its share of the difference z
pub record Covered (rules : RuleSet) (z : ℤ) (s : Sheet) (share : ℕ) : Type 0 where
  pub accepted : AcceptedSheet s
  pub enough : is_negative z ≡ true → share ≤ common_heat_lem rules s

module _ (rules : RuleSet) (s : Sheet) (a : AcceptedSheet s) where
  pub common_le_meter : common_heat_lem rules s ≤ s.shared_meter
  unfolding space_heat
  common_le_meter = omega (arith, heat_parts_lem rules s a)

module _ (rules : RuleSet) where
  -- THE ENERGIES OF A BUILDING ADD TO ITS ADJUSTED READING
  pub adjusted-sum : (z : ℤ) {s : Sheet} {share : ℕ} → Covered rules z s share
      → sum (energies_with whole_wh rules s (adjusted whole_wh z (common_heat_lem rules s) share)) ≡ adjusted whole_wh z s.shared_meter share
  adjusted-sum (pos n) {s} {share} h = omega (arith, with_sum rules s h.accepted (common_heat_lem rules s + share))
  adjusted-sum (negsuc n) {s} {share} h =
      omega (arith, with_sum rules s h.accepted (adjusted whole_wh (negsuc n) (common_heat_lem rules s) share), h.enough refl, common_le_meter rules s h.accepted)

  -- its adjusted common heat is within it
  pub adjusted_le : (z : ℤ) {s : Sheet} {share : ℕ} → Covered rules z s share → adjusted whole_wh z (common_heat_lem rules s) share ≤ adjusted whole_wh z s.shared_meter share
  adjusted_le (pos n) {s} h = omega (arith, common_le_meter rules s h.accepted)
  adjusted_le (negsuc n) {s} h = omega (arith, common_le_meter rules s h.accepted)

-- ---- building by building
abbrev pub readings_of : ℤ → List Sheet → List ℕ → List ℕ
readings_of z ss shares = zip_with (λ s share. adjusted whole_wh z s.shared_meter share) ss shares

abbrev pub heats_of : RuleSet → ℤ → List Sheet → List ℕ → List ℕ
heats_of rules z ss shares = zip_with (λ s share. adjusted whole_wh z (heat_parts whole_wh rules s).common share) ss shares

abbrev pub energies_of : RuleSet → ℤ → List Sheet → List ℕ → List (List ℕ)
energies_of rules z ss shares = zip_with (energies_with whole_wh rules) ss (heats_of rules z ss shares)

cover : (rules : RuleSet) (z : ℤ) (ss : List Sheet) (shares : List ℕ) → length shares ≡ length ss → Each AcceptedSheet ss
    → (is_negative z ≡ true → (i : ℕ) → i < length ss → get_or shares i 0 ≤ get_or (map (λ s. (heat_parts whole_wh rules s).common) ss) i 0) → Beside (Covered rules z) ss shares
cover rules z [] [] e each enough = none
cover rules z [] (x ∷ xs) e each enough = absurd (omega arith)
cover rules z (s ∷ ss) [] e each enough = absurd (omega arith)
cover rules z (s ∷ ss) (x ∷ xs) e each enough =
    one (record { accepted = each.0; enough = λ h. enough h 0 (omega arith) }) (cover rules z ss xs (omega arith) each.1 (λ h i l. enough h (suc i) (omega arith)))

module _ {rules : RuleSet} {z : ℤ} where
  fours : {ss : List Sheet} {xs : List ℕ} → Beside (Covered rules z) ss xs → Beside Fours (map (λ s. s.unit_count) ss) (energies_of rules z ss xs)
  unfolding zip_with
  fours none = none
  fours (one {x = s} {y = x} h hs) =
      one (with_length whole_wh rules s (adjusted whole_wh z (common_heat_lem rules s) x) ∙ ap (λ (n : ℕ). 4 * n) h.accepted.checked-sheet.unit_count_lem) (fours hs)

  sums : {ss : List Sheet} {xs : List ℕ} → Beside (Covered rules z) ss xs → Beside AddTo (readings_of z ss xs) (energies_of rules z ss xs)
  unfolding zip_with
  sums none = none
  sums (one h hs) = one (adjusted-sum rules z h) (sums hs)

  heats_le : {ss : List Sheet} {xs : List ℕ} → Beside (Covered rules z) ss xs → Beside ◌≤◌ (heats_of rules z ss xs) (readings_of z ss xs)
  unfolding zip_with
  heats_le none = none
  heats_le (one h hs) = one (adjusted_le rules z h) (heats_le hs)

module _ {rules : RuleSet} {n : ℕ} where
  sum_more : {ss : List Sheet} {xs : List ℕ} → Beside (Covered rules (pos n)) ss xs → sum (readings_of (pos n) ss xs) ≡ sum (map (λ s. s.shared_meter) ss) + sum xs
  unfolding zip_with
  sum_more none = refl
  sum_more (one h hs) = omega (arith, sum_more hs)

  sum_less : {ss : List Sheet} {xs : List ℕ} → Beside (Covered rules (negsuc n)) ss xs → sum (readings_of (negsuc n) ss xs) + sum xs ≡ sum (map (λ s. s.shared_meter) ss)
  unfolding zip_with
  sum_less none = refl
  sum_less (one {x = s} h hs) = omega (arith, sum_less hs, h.enough refl, common_le_meter rules s h.accepted)

sum-adjusted : (rules : RuleSet) (z : ℤ) {ss : List Sheet} {xs : List ℕ} {reading : ℕ} → Beside (Covered rules z) ss xs → sum xs ≡ nat_abs z
    → up z + sum (map (λ s. s.shared_meter) ss) ≡ reading + down z → sum (readings_of z ss xs) ≡ reading
sum-adjusted rules (pos n) hs e f = omega (arith, sum_more hs)
sum-adjusted rules (negsuc n) hs e f = omega (arith, sum_less hs)

-- ---- the group
module _ (rules : RuleSet) (g : Group) (a : AcceptedGroup rules g) where
  pub covered : Beside (Covered rules (difference g)) g.buildings (difference_shares whole_wh rules g)
  covered = cover rules (difference g) g.buildings (difference_shares whole_wh rules g) (shares-length g a.checked-group rules) a.checked-group.each a.not-below

  -- THE ADJUSTED READINGS ADD TO THE SHARED READING
  pub readings_add : sum (adjusted_readings rules g) ≡ g.shared_reading
  unfolding adjusted_readings
  readings_add = sum-adjusted rules (difference g) covered (shares-fair g a.checked-group rules).adds_up (difference_parts g)

  -- and each building's 4n energies add to its adjusted reading
  pub building-fours : Beside Fours (map (λ s. s.unit_count) g.buildings) (building_energies whole_wh rules g)
  unfolding building_energies common_heats
  building-fours = fours covered

  pub building-sums : Beside AddTo (adjusted_readings rules g) (building_energies whole_wh rules g)
  unfolding adjusted_readings building_energies common_heats
  building-sums = sums covered

  pub energies-length : length (group_energies whole_wh rules g) ≡ 4 * group_units g
  unfolding group_energies group_units
  energies-length = joined_length building-fours

  -- THE ENERGIES OF ALL UNITS ADD TO THE SHARED READING
  pub energies-sum : sum (group_energies whole_wh rules g) ≡ g.shared_reading
  unfolding group_energies
  energies-sum = joined-sum building-sums ∙ readings_add

  -- ---- bounds, for code of 64 bits
  pub reading_le : (i : ℕ) → get_or (adjusted_readings rules g) i 0 ≤ 4000000000
  reading_le i = omega (arith, item_le (adjusted_readings rules g) i, readings_add, a.checked-group.reading)

  pub heats_beside : Beside ◌≤◌ (common_heats whole_wh rules g) (adjusted_readings rules g)
  unfolding common_heats adjusted_readings
  heats_beside = heats_le covered

  pub common_heat_le : (i : ℕ) → get_or (common_heats whole_wh rules g) i 0 ≤ 4000000000
  common_heat_le i = elim (dec_lt i (length (common_heats whole_wh rules g))) [
    | yes h ↦ omega (arith, at heats_beside i 0 0 h, reading_le i)
    | no h ↦ omega (arith, get_or-eq_default (common_heats whole_wh rules g) 0 {n = i} (omega arith))
  ]

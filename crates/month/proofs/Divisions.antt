-- The divisions of a month: each is fair, and a month makes no others. Assumes nothing.
use mathlib.Core.Path.{◌≡◌, refl, ap, ◌∙◌}
use mathlib.Core.Bool.{Bool, true, false}
use mathlib.Core.Logic.{inl, inr}
use mathlib.Core.List.{List, [], ◌∷◌, ◌++◌, map}
use Prim.Native.Nat.{ℕ, zero, suc, ◌+◌, ◌-◌, ◌≤◌, ◌<◌}
use native.Mathlib.Omega.{arith}
use native.Mathlib.Decide.{dec_lt}
use borrow.Author.Tests.{eqb-true, eqb-false}
use lib.Dec.{eqb}
use lib.ListN.{length, get_or, drop}
use Rattle.apportion.specs.Shares.{sum}
use Rattle.apportion.specs.Fair.{Fair}
use Rattle.apportion.proofs.Laws.{shares-fair}
use Rattle.sheet.specs.declared.rule_set.RuleSet.{RuleSet}
use Rattle.sheet.specs.RuleSets.{ties}
use Rattle.sheet.specs.Layout.{UnitRow, Sheet}
use Rattle.sheet.specs.Tests.{Each}
use Rattle.month.specs.Weights.{unread_units, all_metered, unread_weights, pool_weight, read_weights, water_weight, common_water_weight}
use Rattle.month.specs.Steps.{Method, shares_under, dividing_by, whole_wh, split_by, in_unit_order, unit_by_unit, hot_water, space_heat, heat_parts, pool_shares, read_shares, heat, common_heat, water_parts, water, common_water, energies_with, energies}
use Rattle.month.specs.Month.{hot_water_wh, space_heat_wh, bill_cents, costs}
use Rattle.month.specs.Inner.Accepted.{AcceptedSheet}
use Rattle.month.specs.Laws.{◌by◌, units_heat_divisions, heat_divisions, divisions_with, Divisible, DoesAsShares, NoOtherDivisions}
use Rattle.month.proofs.Lists.{decided, sum-two, each_append, each_parts}
use Rattle.month.proofs.Accepted.{load-positive, area-positive, pool-positive, read-positive, water-positive, common_water-positive}

-- ---- the four ways of steps 3 and 4
pub data Way (s : Sheet) : Type 0 where
  by-meters : all_metered s ≡ true → Way s
  by-load : all_metered s ≡ false → eqb s.model 1 ≡ true → Way s
  by_area_lem : all_metered s ≡ false → eqb s.model 1 ≡ false → eqb s.model 2 ≡ true → Way s
  by-pool : all_metered s ≡ false → eqb s.model 1 ≡ false → eqb s.model 2 ≡ false → Way s

pub way : (s : Sheet) → Way s
way s = go (all_metered s) refl (eqb s.model 1) refl (eqb s.model 2) refl
  where
    go : (x : Bool) → all_metered s ≡ x → (y : Bool) → eqb s.model 1 ≡ y → (z : Bool) → eqb s.model 2 ≡ z → Way s
    go true e y f z g = by-meters e
    go false e true f z g = by-load e f
    go false e false f true g = by_area_lem e f g
    go false e false f false g = by-pool e f g

-- ---- a division by the rules
pub under-fair : (rules : RuleSet) (t : ℕ) (ws : List ℕ) → (sum ws ≡ 0 → t ≡ 0) → Fair t ws (shares_under rules t ws)
under-fair rules t ws h = shares-fair (ties rules) t ws h

-- ---- (100 − percent, percent)
module _ (rules : RuleSet) (percent t : ℕ) where
  abbrev pub pair : List ℕ
  pair = (100 - percent) ∷ percent ∷ []

  pub split-divisible : Divisible (t by pair)
  split-divisible e = absurd (omega arith)

  pub split-fair : Fair t pair (shares_under rules t pair)
  split-fair = under-fair rules t pair split-divisible

  pub split-sum : (split_by whole_wh rules percent t).of_units + (split_by whole_wh rules percent t).common ≡ t
  unfolding split_by
  split-sum = omega (arith, sum-two (shares_under rules t pair) split-fair.as_many, split-fair.adds_up)

  pub split-none : percent ≡ 0 → (split_by whole_wh rules percent t).common ≡ 0
  unfolding split_by
  split-none e = split-fair.none_for_none 1 e

abbrev pub units-heat : RuleSet → Sheet → ℕ
units-heat rules s = (heat_parts whole_wh rules s).of_units

abbrev pub common_heat_lem : RuleSet → Sheet → ℕ
common_heat_lem rules s = (heat_parts whole_wh rules s).common

-- the pool's share
abbrev pub pool : RuleSet → Sheet → ℕ
pool rules s = get_or (pool_shares whole_wh rules s) (length (unread_units s)) 0

-- ---- each division but the bill's
positive : {t w : ℕ} → 0 < w → w ≡ 0 → t ≡ 0
positive h e = absurd (omega arith)

-- models 3 to 5
pub above-two : (s : Sheet) → AcceptedSheet s → eqb s.model 1 ≡ false → eqb s.model 2 ≡ false → 3 ≤ s.model
above-two s a p q = omega (arith, eqb-false s.model 1 p, eqb-false s.model 2 q, a.checked-sheet.header.model_low)

module _ (rules : RuleSet) (s : Sheet) (a : AcceptedSheet s) where
  pub load-fair : eqb s.model 1 ≡ true → Fair (units-heat rules s) (map (λ u. u.heat_load) s.units) (shares_under rules (units-heat rules s) (map (λ u. u.heat_load) s.units))
  load-fair e = under-fair rules (units-heat rules s) (map (λ u. u.heat_load) s.units) (positive (load-positive s a (eqb-true s.model 1 e)))

  pub area-fair : (t : ℕ) → Fair t (map (λ u. u.heated_area) s.units) (shares_under rules t (map (λ u. u.heated_area) s.units))
  area-fair t = under-fair rules t (map (λ u. u.heated_area) s.units) (positive (area-positive s a))

  pub pool-fair : Fair (units-heat rules s) (unread_weights s ++ pool_weight s ∷ []) (pool_shares whole_wh rules s)
  unfolding pool_shares
  pool-fair = under-fair rules (units-heat rules s) (unread_weights s ++ pool_weight s ∷ []) (positive (pool-positive s a))

  pub read-fair : 3 ≤ s.model → Fair (pool rules s) (read_weights rules s) (read_shares whole_wh rules s)
  unfolding read_shares
  read-fair m = under-fair rules (pool rules s) (read_weights rules s) (positive (read-positive s a rules m))

  pub water-divisible : Divisible ((water_parts whole_wh rules s).of_units by map (water_weight s) s.units)
  unfolding water_parts hot_water_wh
  water-divisible e =
      elim (dec_lt 0 (hot_water_wh s)) [
        | yes w ↦ absurd (omega (arith, water-positive s a w))
        | no w ↦ omega (arith, split-sum rules s.common_water_percent (hot_water whole_wh s))
      ]

  pub common_water-divisible : Divisible ((water_parts whole_wh rules s).common by map common_water_weight s.units)
  unfolding water_parts hot_water_wh
  common_water-divisible e =
      elim (dec_lt 0 (hot_water_wh s)) [
        | yes w ↦
            elim (dec_lt 0 s.common_water_percent) [
              | yes y ↦ absurd (omega (arith, common_water-positive s a w y))
              | no y ↦ split-none rules s.common_water_percent (hot_water whole_wh s) (omega arith)
            ]
        | no w ↦ omega (arith, split-sum rules s.common_water_percent (hot_water whole_wh s))
      ]

  pub water-fair : Fair (water_parts whole_wh rules s).of_units (map (water_weight s) s.units) (water whole_wh rules s)
  unfolding water
  water-fair = under-fair rules (water_parts whole_wh rules s).of_units (map (water_weight s) s.units) water-divisible

  pub common_water-fair : Fair (water_parts whole_wh rules s).common (map common_water_weight s.units) (common_water whole_wh rules s)
  unfolding common_water
  common_water-fair = under-fair rules (water_parts whole_wh rules s).common (map common_water_weight s.units) common_water-divisible

  heat-divisible : Each Divisible (heat_divisions rules s)
  unfolding heat_divisions units_heat_divisions
  heat-divisible =
      let split = split-divisible rules s.common_heat_percent (space_heat_wh s) in
      elim (way s) [
        | by-meters e ↦ rw e tt
        | by-load e f ↦ rw (e, f) (split, (positive (load-positive s a (eqb-true s.model 1 f)), tt))
        | by_area_lem e f g ↦ rw (e, f, g) (split, (positive (area-positive s a), tt))
        | by-pool e f g ↦ rw (e, f, g) (split, (positive (pool-positive s a), (positive (read-positive s a rules (above-two s a f g)), tt)))
      ]

  -- NO DIVISION MEETS W = 0 WITH T > 0
  pub all-divisible : (common bill : ℕ) → Divisible (bill by energies_with whole_wh rules s common) → Each Divisible (divisions_with rules s common bill)
  unfolding divisions_with
  all-divisible common bill costs =
      each_append Divisible (heat_divisions rules s) _ heat-divisible
      (positive (area-positive s a), (split-divisible rules s.common_water_percent (hot_water_wh s), (water-divisible, (common_water-divisible, (costs, tt)))))

-- ---- no others
module _ (divide : Method) where
  same-order : (us : List UnitRow) (a b : List ℕ) → in_unit_order (dividing_by divide) us a b ≡ in_unit_order whole_wh us a b
  unfolding in_unit_order
  same-order [] a b = refl
  same-order (u ∷ us) a b = rw (same-order us a (drop 1 b), same-order us (drop 1 a) b)

  same-by_unit : (n : ℕ) (a b c d : List ℕ) → unit_by_unit (dividing_by divide) n a b c d ≡ unit_by_unit whole_wh n a b c d
  unfolding unit_by_unit
  same-by_unit zero a b c d = refl
  same-by_unit (suc n) a b c d = rw (same-by_unit n (drop 1 a) (drop 1 b) (drop 1 c) (drop 1 d))

  module _ (rules : RuleSet) (s : Sheet) (h : Each (DoesAsShares rules divide) (heat_divisions rules s)) where
    same-heat_parts : ((heat_parts (dividing_by divide) rules s).of_units ≡ (heat_parts whole_wh rules s).of_units) × ((heat_parts (dividing_by divide) rules s).common ≡ (heat_parts whole_wh rules s).common)
    unfolding heat_parts split_by space_heat hot_water heat_divisions units_heat_divisions space_heat_wh
    same-heat_parts = elim (decided (all_metered s)) [
      | inl e ↦ rw e (refl, refl)
      | inr e ↦ let k = rw e at h in rw (e, k.0) (refl, refl)
    ]

    same-heat : heat (dividing_by divide) rules s ≡ heat whole_wh rules s
    unfolding heat pool_shares read_shares heat_divisions units_heat_divisions
    same-heat = elim (way s) [
      | by-meters e ↦ rw e
      | by-load e f ↦ let k = rw (e, f) at h in rw (e, f, same-heat_parts.0, k.1.0)
      | by_area_lem e f g ↦ let k = rw (e, f, g) at h in rw (e, f, g, same-heat_parts.0, k.1.0)
      | by-pool e f g ↦ let k = rw (e, f, g) at h in rw (e, f, g, same-heat_parts.0, k.1.0, k.1.1.0) (same-order s.units (pool_shares whole_wh rules s) (read_shares whole_wh rules s))
    ]

  module _ (rules : RuleSet) (s : Sheet) (common bill : ℕ) (h : Each (DoesAsShares rules divide) (divisions_with rules s common bill)) where
    pub same-common : (heat_parts (dividing_by divide) rules s).common ≡ (heat_parts whole_wh rules s).common
    unfolding divisions_with
    same-common = (same-heat_parts rules s (each_parts (DoesAsShares rules divide) (heat_divisions rules s) _ h).0).1

    pub same_with : (energies_with (dividing_by divide) rules s common ≡ energies_with whole_wh rules s common)
        × (divide rules bill (energies_with whole_wh rules s common) ≡ shares_under rules bill (energies_with whole_wh rules s common))
    unfolding divisions_with common_heat water_parts split_by water common_water hot_water hot_water_wh
    same_with =
        let p = each_parts (DoesAsShares rules divide) (heat_divisions rules s) _ h in
        let more = p.1 in
        let split = more.1.0 in
        let n = length s.units in
        let e = dividing_by divide in
        let a = same-heat rules s p.0 in
        let b : common_heat e rules s common ≡ common_heat whole_wh rules s common = more.0 in
        let c : water e rules s ≡ water whole_wh rules s = ap (λ (xs : List ℕ). divide rules (get_or xs 0 0) (map (water_weight s) s.units)) split ∙ more.1.1.0 in
        let d : common_water e rules s ≡ common_water whole_wh rules s = ap (λ (xs : List ℕ). divide rules (get_or xs 1 0) (map common_water_weight s.units)) split ∙ more.1.1.1.0 in
        (same-by_unit n (heat e rules s) (common_heat e rules s common) (water e rules s) (common_water e rules s) ∙ (λ i. unit_by_unit whole_wh n (a i) (b i) (c i) (d i)), more.1.1.1.1.0)

pub no_other_divisions : NoOtherDivisions
unfolding energies costs
no_other_divisions rules s divide h =
    let common = (heat_parts whole_wh rules s).common in
    let same = same_with divide rules s common (bill_cents s) h in
    let es : energies (dividing_by divide) rules s ≡ energies whole_wh rules s = ap (energies_with (dividing_by divide) rules s) (same-common divide rules s common (bill_cents s) h) ∙ same.0 in
    record { same-energies = es; same-costs = ap (divide rules (bill_cents s)) es ∙ same.1 }

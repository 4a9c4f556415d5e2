-- The energies of an accepted sheet add to M, the cents to the bill. Assumes nothing.
use mathlib.Core.Path.{◌≡◌, sym, ap, ◌∙◌}
use mathlib.Core.Bool.{true}
use mathlib.Core.Logic.{inl, inr}
use mathlib.Core.List.{List, [], ◌∷◌, map}
use Prim.Native.Nat.{ℕ, ◌+◌, ◌*◌, ◌/◌, ◌≤◌}
use native.Mathlib.Omega.{arith}
use native.Mathlib.Nat.{zero-mul}
use lib.ListN.{length, length-map, length-append}
use Rattle.apportion.specs.Shares.{sum}
use Rattle.apportion.specs.Fair.{Fair}
use Rattle.sheet.specs.declared.rule_set.RuleSet.{RuleSet}
use Rattle.sheet.specs.Layout.{UnitRow, Sheet}
use Rattle.month.specs.Weights.{read_units, unread_units, all_metered, metered_sum, unread_weight, unread_weights, pool_weight, read_weight, read_weights, water_weight, common_water_weight}
use Rattle.month.specs.Steps.{Rounding, whole_wh, in_unit_order, hot_water, space_heat, heat_parts, pool_shares, read_shares, heat, common_heat, water_parts, water, common_water, energies_with, energies}
use Rattle.month.specs.Month.{hot_water_wh, space_heat_wh, bill_cents, costs}
use Rattle.month.specs.Inner.Accepted.{AcceptedSheet}
use Rattle.month.specs.Laws.{◌by◌, Divisible}
use Rattle.month.proofs.Lists.{decided, sum-last, sum-whole, in_order-length, in_order-sum, by_unit-length, by_unit-sum}
use Rattle.month.proofs.Divisions.{under-fair, by-meters, by-load, by_area_lem, by-pool, way, split-sum, units-heat, common_heat_lem, above-two, load-fair, area-fair, pool-fair, read-fair, water-fair, common_water-fair}

-- as many shares as units
as_many-units : (f : UnitRow → ℕ) (us : List UnitRow) {t : ℕ} {xs : List ℕ} → Fair t (map f us) xs → length xs ≡ length us
as_many-units f us fair = fair.as_many ∙ length-map us f

-- THE ENERGIES ARE 4n, whatever step 5 divides, in whole Wh and in fractions
pub with_length : (e : Rounding) (rules : RuleSet) (s : Sheet) (common : e.Energy) → length (energies_with e rules s common) ≡ 4 * length s.units
with_length e rules s common = by_unit-length e (length s.units) (heat e rules s) (common_heat e rules s common) (water e rules s) (common_water e rules s)

module _ (rules : RuleSet) (s : Sheet) (a : AcceptedSheet s) where
  -- ---- space heat
  pub heat_parts_lem : (heat_parts whole_wh rules s).of_units + (heat_parts whole_wh rules s).common ≡ space_heat whole_wh s
  unfolding heat_parts space_heat_wh
  heat_parts_lem = elim (decided (all_metered s)) [
    | inl e ↦ rw e (omega (arith, a.meters_fit e))
    | inr e ↦ rw e (split-sum rules s.common_heat_percent (space_heat whole_wh s))
  ]

  pool-length : length (pool_shares whole_wh rules s) ≡ length (unread_units s) + 1
  unfolding unread_weights
  pool-length =
      (pool-fair rules s a).as_many
      ∙ omega (arith, length-append (map (unread_weight s) (unread_units s)) (pool_weight s ∷ []), length-map (unread_units s) (unread_weight s))

  read_length : 3 ≤ s.model → length (read_shares whole_wh rules s) ≡ length (read_units s)
  unfolding read_weights
  read_length m = as_many-units (read_weight rules s) (read_units s) (read-fair rules s a m)

  -- the unread units' shares and the read ones' make the units' heat
  pool_shared : 3 ≤ s.model → sum (in_unit_order whole_wh s.units (pool_shares whole_wh rules s) (read_shares whole_wh rules s)) ≡ units-heat rules s
  pool_shared m =
      omega (
        arith,
        in_order-sum s.units (pool_shares whole_wh rules s) (read_shares whole_wh rules s),
        sum-whole (length (read_units s)) (read_shares whole_wh rules s) (read_length m),
        sum-last (length (unread_units s)) (pool_shares whole_wh rules s) pool-length,
        (pool-fair rules s a).adds_up,
        (read-fair rules s a m).adds_up,
      )

  metered_heat_lem : all_metered s ≡ true → (heat_parts whole_wh rules s).of_units ≡ metered_sum s
  unfolding heat_parts
  metered_heat_lem e = rw e

  heat-sum : sum (heat whole_wh rules s) ≡ units-heat rules s
  unfolding heat metered_sum
  heat-sum = elim (way s) [
    | by-meters e ↦ rw e (sym (metered_heat_lem e))
    | by-load e f ↦ rw (e, f) (load-fair rules s a f).adds_up
    | by_area_lem e f g ↦ rw (e, f, g) (area-fair rules s a (units-heat rules s)).adds_up
    | by-pool e f g ↦ rw (e, f, g) (pool_shared (above-two s a f g))
  ]

  heat-length : length (heat whole_wh rules s) ≡ length s.units
  unfolding heat
  heat-length = elim (way s) [
    | by-meters e ↦ rw e (length-map s.units (λ u. u.reading))
    | by-load e f ↦ rw (e, f) (as_many-units (λ u. u.heat_load) s.units (load-fair rules s a f))
    | by_area_lem e f g ↦ rw (e, f, g) (as_many-units (λ u. u.heated_area) s.units (area-fair rules s a (units-heat rules s)))
    | by-pool e f g ↦ rw (e, f, g) (in_order-length s.units (pool_shares whole_wh rules s) (read_shares whole_wh rules s))
  ]

  -- THE ENERGIES ADD TO M, step 5's total in place of the common heat
  module _ (common : ℕ) where
    pub with_sum : sum (energies_with whole_wh rules s common) + common_heat_lem rules s ≡ s.shared_meter + common
    unfolding space_heat hot_water_wh common_heat water_parts
    with_sum =
        let n = length s.units in
        omega (
          arith,
          by_unit-sum n (heat whole_wh rules s) (common_heat whole_wh rules s common) (water whole_wh rules s) (common_water whole_wh rules s),
          sum-whole n (heat whole_wh rules s) heat-length,
          sum-whole n (common_heat whole_wh rules s common) (as_many-units (λ u. u.heated_area) s.units (area-fair rules s a common)),
          sum-whole n (water whole_wh rules s) (as_many-units (water_weight s) s.units (water-fair rules s a)),
          sum-whole n (common_water whole_wh rules s) (as_many-units common_water_weight s.units (common_water-fair rules s a)),
          heat-sum,
          heat_parts_lem,
          (area-fair rules s a common).adds_up,
          (water-fair rules s a).adds_up,
          (common_water-fair rules s a).adds_up,
          split-sum rules s.common_water_percent (hot_water whole_wh s),
          a.water-fits,
        )

  pub energies-length : length (energies whole_wh rules s) ≡ 4 * length s.units
  unfolding energies
  energies-length = with_length whole_wh rules s (common_heat_lem rules s)

  pub energies-sum : sum (energies whole_wh rules s) ≡ s.shared_meter
  unfolding energies
  energies-sum = omega (arith, with_sum (common_heat_lem rules s))

  -- ---- step 7: with M = 0 the bill is 0
  pub bill-divisible : Divisible (bill_cents s by energies whole_wh rules s)
  unfolding bill_cents
  bill-divisible e =
      let z : s.shared_meter ≡ 0 = sym energies-sum ∙ e in
      ap (λ (m : ℕ). (m * s.price + 500000) / 1000000) z ∙ ap (λ (c : ℕ). (c + 500000) / 1000000) (zero-mul s.price)

  -- THE CENTS ARE FAIR: 4n, AND ADD TO THE BILL
  pub costs-fair : Fair (bill_cents s) (energies whole_wh rules s) (costs rules s)
  unfolding costs
  costs-fair = under-fair rules (bill_cents s) (energies whole_wh rules s) bill-divisible

-- THE LAWS OF A MONTH (specs/Laws.antt). Assumes nothing.
use mathlib.Core.Path.{◌≡◌, refl, sym, ap, subst, ◌∙◌}
use mathlib.Core.Logic.{inl, inr}
use mathlib.Core.List.{List, [], ◌∷◌, map}
use Prim.Native.Nat.{ℕ, ◌+◌, ◌*◌, ◌≤◌, ◌<◌}
use native.Mathlib.Omega.{arith}
use borrow.Author.Tests.{eqb-true, eqb-false}
use lib.Dec.{eqb}
use lib.ListN.{length, get_or}
use Rattle.apportion.specs.Shares.{sum}
use Rattle.sheet.specs.Refusals.{Outcome, first_refusal}
use Rattle.std.specs.Prelude.{Ok, Err}
use Rattle.sheet.specs.declared.rule_set.RuleSet.{RuleSet}
use Rattle.sheet.specs.Layout.{UnitRow, Sheet, sheet_of}
use Rattle.month.specs.Fraction.{Fraction, Near, ◌over◌}
use Rattle.month.specs.Weights.{unread_units, all_metered, metered_sum}
use Rattle.month.specs.Steps.{whole_wh, unrounded, split_by, space_heat, heat_parts, pool_shares, read_shares, heat, common_heat, water_parts, water, common_water, energies_with, energies}
use Rattle.month.specs.Month.{hot_water_wh, space_heat_wh, bill_cents, costs, statement_of, Month, month_of, settled, settle_rules, settled_sheet, unless_refused}
use Rattle.month.specs.Portions.{energy_portion, bill_part}
use Rattle.month.specs.Inner.Accepted.{AcceptedSheet}
use Rattle.month.specs.Laws.{sum_to, MonthLaws, SettledLaws}
use Rattle.month.proofs.Nearness.{NearAll, near_whole, near_zero, near_more, near_less, near_quotient, near_divided, all_more}
use Rattle.month.proofs.Lists.{decided, near_cons, near_nil, in_order_near, by_unit_near, sum_to_cong, sum-by-fours, rows-length, row-energy, row_cost, each_below, rows-below}
use Rattle.month.proofs.Rounding.{near_water}
use Rattle.month.proofs.Accepted.{accepted}
use Rattle.month.proofs.Divisions.{by-meters, by-load, by_area_lem, by-pool, way, split-fair, above-two, load-fair, area-fair, pool-fair, read-fair, water-fair, common_water-fair, all-divisible, units-heat, common_heat_lem}
use Rattle.month.proofs.Bounds.{sum_bounds}
use Rattle.month.proofs.Sums.{energies-length, energies-sum, bill-divisible, costs-fair}

split_near : (rules : RuleSet) {t k : ℕ} {f : Fraction} (percent : ℕ) → Near t f k
    → Near (split_by whole_wh rules percent t).of_units (split_by unrounded rules percent f).of_units (k + 1) × Near (split_by whole_wh rules percent t).common (split_by unrounded rules percent f).common (k + 1)
unfolding split_by
split_near rules {t} percent n = let d = near_divided (split-fair rules percent t) n in (d.at 0, d.at 1)

near_readings : (us : List UnitRow) → NearAll (map (λ u. u.reading) us) (map (λ u. u.reading over 1) us) 0
near_readings [] = near_nil 0
near_readings (u ∷ us) = near_cons (near_whole u.reading) (near_readings us)

-- ---- each energy, step by step
module _ (rules : RuleSet) (s : Sheet) (a : AcceptedSheet s) where
  near_space : Near (space_heat whole_wh s) (space_heat unrounded s) 1
  unfolding space_heat hot_water_wh
  near_space = near_less (near_whole s.shared_meter) (near_water s) a.water-fits

  pub near_heat_parts : Near (heat_parts whole_wh rules s).of_units (heat_parts unrounded rules s).of_units 2 × Near (heat_parts whole_wh rules s).common (heat_parts unrounded rules s).common 2
  unfolding heat_parts space_heat_wh
  near_heat_parts = elim (decided (all_metered s)) [
    | inl e ↦
        let c = near_whole (metered_sum s) in
        rw e (near_more (omega arith) c, near_more (omega arith) (near_less near_space c (a.meters_fit e)))
    | inr e ↦ rw e (split_near rules s.common_heat_percent near_space)
  ]

  near_pool : NearAll (pool_shares whole_wh rules s) (pool_shares unrounded rules s) 3
  unfolding pool_shares
  near_pool = near_divided (pool-fair rules s a) near_heat_parts.0

  near_read : 3 ≤ s.model → NearAll (read_shares whole_wh rules s) (read_shares unrounded rules s) 4
  unfolding read_shares
  near_read m = near_divided (read-fair rules s a m) (near_pool.at (length (unread_units s)))

  near_heat : NearAll (heat whole_wh rules s) (heat unrounded rules s) 4
  unfolding heat
  near_heat = elim (way s) [
    | by-meters e ↦ rw e (all_more (omega arith) (near_readings s.units))
    | by-load e f ↦ rw (e, f) (all_more (omega arith) (near_divided (load-fair rules s a f) near_heat_parts.0))
    | by_area_lem e f g ↦ rw (e, f, g) (all_more (omega arith) (near_divided (area-fair rules s a (units-heat rules s)) near_heat_parts.0))
    | by-pool e f g ↦ rw (e, f, g) (in_order_near s.units (all_more (omega arith) near_pool) (near_read (above-two s a f g)))
  ]

  near_common_heat : {common k : ℕ} {f : Fraction} → Near common f k → NearAll (common_heat whole_wh rules s common) (common_heat unrounded rules s f) (k + 1)
  unfolding common_heat
  near_common_heat {common} near = near_divided (area-fair rules s a common) near

  near_water_parts : Near (water_parts whole_wh rules s).of_units (water_parts unrounded rules s).of_units 2 × Near (water_parts whole_wh rules s).common (water_parts unrounded rules s).common 2
  unfolding water_parts
  near_water_parts = split_near rules s.common_water_percent (near_water s)

  near_units_water : NearAll (water whole_wh rules s) (water unrounded rules s) 3
  unfolding water
  near_units_water = near_divided (water-fair rules s a) near_water_parts.0

  near_common_water : NearAll (common_water whole_wh rules s) (common_water unrounded rules s) 3
  unfolding common_water
  near_common_water = near_divided (common_water-fair rules s a) near_water_parts.1

  -- EACH ENERGY IS WITHIN 4 Wh OF ITS UNROUNDED PORTION, if what step 5 divides is within 3
  pub with_near : {common : ℕ} {f : Fraction} → Near common f 3 → NearAll (energies_with whole_wh rules s common) (energies_with unrounded rules s f) 4
  with_near near = by_unit_near (length s.units) near_heat (near_common_heat near) (all_more (omega arith) near_units_water) (all_more (omega arith) near_common_water)

  pub energies_near : NearAll (energies whole_wh rules s) (energies unrounded rules s) 4
  unfolding energies
  energies_near = with_near (near_more (omega arith) near_heat_parts.1)

  -- EACH CENT IS WITHIN 1 OF THE BILL'S PART
  pub costs_near : (u j : ℕ) → Near (get_or (costs rules s) (4 * u + j) 0) (bill_part rules s u j) 1
  unfolding bill_part
  costs_near u j =
      let i = 4 * u + j in
      let es = energies whole_wh rules s in
      let fair = costs-fair rules s a in
      elim (decided (eqb s.shared_meter 0)) [
        | inl e ↦
            let z : sum es ≡ 0 = energies-sum rules s a ∙ eqb-true s.shared_meter 0 e in
            let y : get_or (costs rules s) i 0 ≡ 0 = omega (arith, fair.within-total i, bill-divisible rules s a z) in
            rw (e, y) (near_zero 1)
        | inr e ↦
            let h : 0 < sum es = omega (arith, energies-sum rules s a, eqb-false s.shared_meter 0 e) in
            let near = near_quotient (get_or (costs rules s) i 0) (bill_cents s * get_or es i 0) (sum es) h (fair.not_above_lem h i) (fair.not-below h i) in
            rw e (subst (λ (m : ℕ). Near (get_or (costs rules s) i 0) ((bill_cents s * get_or es i 0) over m) 1) (energies-sum rules s a) near)
      ]

  -- EVERY NUMBER FITS 32 BITS, and all that specs/Laws.antt asks
  pub month-laws : MonthLaws rules s (month_of rules s)
  unfolding month_of statement_of energies costs energy_portion
  month-laws =
      let n = length s.units in
      let es = energies whole_wh rules s in
      let cs = costs rules s in
      let xs = statement_of rules s in
      let c = a.checked-sheet.unit_count_lem in
      let le : length es ≡ 4 * n = energies-length rules s a in
      let lc : length cs ≡ 4 * n = (costs-fair rules s a).as_many ∙ le in
      let energy : (u j : ℕ) → u < n → j < 4 → get_or xs (8 * u + j) 0 ≡ get_or es (4 * u + j) 0 = λ u j h l. row-energy n es cs u j le lc h l in
      let cost : (u j : ℕ) → u < n → j < 4 → get_or xs (8 * u + (4 + j)) 0 ≡ get_or cs (4 * u + j) 0 = λ u j h l. row_cost n es cs u j le lc h l in
      record {
        is-month = refl;
        count = omega (arith, rows-length n es cs le lc);
        fit_32_bits = rows-below 4294967296 n es cs
            (each_below 4294967296 es (omega (arith, energies-sum rules s a, a.checked-sheet.header.shared_meter)))
            (each_below 4294967296 cs (omega (arith, (costs-fair rules s a).adds_up, (sum_bounds s a.checked-sheet).bill)));
        energies_add = ap (λ (k : ℕ). sum_to k (λ u. sum_to 4 (λ j. get_or xs (8 * u + j) 0))) (sym c)
            ∙ sum_to_cong n _ _ (λ u h. sum_to_cong 4 _ _ (λ j l. energy u j h l)) ∙ sum-by-fours n es le ∙ energies-sum rules s a;
        cents_add = ap (λ (k : ℕ). sum_to k (λ u. sum_to 4 (λ j. get_or xs (8 * u + (4 + j)) 0))) (sym c)
            ∙ sum_to_cong n _ _ (λ u h. sum_to_cong 4 _ _ (λ j l. cost u j h l)) ∙ sum-by-fours n cs lc ∙ (costs-fair rules s a).adds_up;
        energy_near = λ u j h l. rw (energy u j (omega arith) l) (energies_near.at (4 * u + j));
        cents_near = λ u j h l. rw (cost u j (omega arith) l) (costs_near u j);
        divisible = all-divisible rules s a (common_heat_lem rules s) (bill_cents s) (bill-divisible rules s a);
      }

-- ---- any bytes
-- what settles is the month of an accepted sheet
pub settled-month : (rules : RuleSet) (bytes : List ℕ) (m : Month) → settled_sheet rules bytes ≡ settled m → (first_refusal (settle_rules bytes) ≡ Ok tt) × (m ≡ month_of rules (sheet_of bytes))
unfolding settled_sheet
settled-month rules bytes m = go (first_refusal (settle_rules bytes)) refl
  where
    go : (o : Outcome) → first_refusal (settle_rules bytes) ≡ o → unless_refused o (month_of rules (sheet_of bytes)) ≡ settled m → (first_refusal (settle_rules bytes) ≡ Ok tt) × (m ≡ month_of rules (sheet_of bytes))
    go (Ok tt) e h = (e, cc)
    go (Err r) e h = absurd (let z : ◌≡◌ {A = ℕ} 0 1 = cc in omega arith)

pub settled-laws : SettledLaws
settled-laws rules bytes m h =
    let k = settled-month rules bytes m h in
    subst (MonthLaws rules (sheet_of bytes)) (sym k.1) (month-laws rules (sheet_of bytes) (accepted bytes k.0))

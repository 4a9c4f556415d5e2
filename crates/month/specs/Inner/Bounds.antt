-- How large the numbers of a month grow, for code of 64 bits. proofs/Bounds.antt shows it.
use Rattle.std.specs.Prelude.{◌≡◌, [], ◌∷◌, ◌++◌, map, ℕ, ◌+◌, ◌*◌, ◌≤◌}
use Rattle.apportion.specs.Shares.{sum}
use Rattle.sheet.specs.declared.rule_set.RuleSet.{RuleSet}
use Rattle.sheet.specs.Layout.{Sheet, water_reading}
use Rattle.month.specs.Weights.{sum_of, metered_sum, total_area, unread_weights, pool_weight, reading_sum, read_surface, read_weights, units_of_class, litres_of_class1, persons_of_class2, water_weight, common_water_weight}
use Rattle.month.specs.Month.{bill_cents}

-- the sums of a sheet that passes 1 to 7: at most 160 units
pub record SumBounds (s : Sheet) : Type 0 where
  pub total_area_lem : total_area s ≤ 1600000  -- P
  pub heat_loads : sum_of (λ u. u.heat_load) s.units ≤ 16000000
  pub read_surface_lem : read_surface s ≤ 1600000  -- S
  pub impulses : s.model ≤ 4 → reading_sum s ≤ 8000000  -- B
  pub metered : metered_sum s ≤ 4000000000  -- C
  pub classes : (c : ℕ) → units_of_class c s ≤ 160  -- n1, n2
  pub litres : litres_of_class1 s ≤ 160000000  -- L
  pub persons_of_class_2 : persons_of_class2 s ≤ 8000  -- N2
  pub persons : sum_of common_water_weight s.units ≤ 8000
  -- H: the upper numbers of sources 2 and 3
  pub litres-heated : s.water_source ≡ 2 → (100 + s.loss_factor) * 54 * water_reading s 0 ≤ 324000000000
  pub summer-readings : sum s.water_readings ≤ 24000000000
  pub price-product : s.shared_meter * s.price ≤ 400000000000000
  pub bill : bill_cents s ≤ 400000000

-- the sums of weights of such a sheet
pub record WeightBounds (rules : RuleSet) (s : Sheet) : Type 0 where
  pub unread : sum (unread_weights s) ≤ 56000000000
  pub pool : sum (unread_weights s ++ pool_weight s ∷ []) ≤ 56000000000
  pub read : sum (read_weights rules s) ≤ 3840000000000000000
  pub water : sum (map (water_weight s) s.units) ≤ 204800000000000

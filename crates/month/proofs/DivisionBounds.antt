-- The totals of an accepted sheet stay below 2 ^ 32. Assumes nothing.
use Prim.Native.Nat.{◌≤◌}
use native.Mathlib.Omega.{arith}
use lib.ListN.{length}
use Rattle.sheet.specs.declared.rule_set.RuleSet.{RuleSet}
use Rattle.sheet.specs.Layout.{Sheet}
use Rattle.month.specs.Weights.{unread_units}
use Rattle.month.specs.Steps.{whole_wh, hot_water, space_heat, water_parts}
use Rattle.month.specs.Month.{hot_water_wh, space_heat_wh}
use Rattle.month.specs.Inner.Accepted.{AcceptedSheet}
use Rattle.month.proofs.Divisions.{split-sum, units-heat, common_heat_lem, pool, pool-fair}
use Rattle.month.proofs.Sums.{heat_parts_lem}

module _ (rules : RuleSet) (s : Sheet) (a : AcceptedSheet s) where
  space_heat_le : space_heat_wh s ≤ 4000000000
  unfolding space_heat_wh space_heat
  space_heat_le = omega (arith, a.checked-sheet.header.shared_meter)

  pub units_heat_le : units-heat rules s ≤ 4000000000
  unfolding space_heat_wh
  units_heat_le = omega (arith, heat_parts_lem rules s a, space_heat_le)

  pub common_heat_le : common_heat_lem rules s ≤ 4000000000
  unfolding space_heat_wh
  common_heat_le = omega (arith, heat_parts_lem rules s a, space_heat_le)

  pub pool_le : pool rules s ≤ 4000000000
  pool_le = omega (arith, (pool-fair rules s a).within-total (length (unread_units s)), units_heat_le)

  hot_water_le : hot_water_wh s ≤ 4000000000
  hot_water_le = omega (arith, a.water-fits, a.checked-sheet.header.shared_meter)

  pub units_water_le : (water_parts whole_wh rules s).of_units ≤ 4000000000
  unfolding water_parts hot_water_wh
  units_water_le = omega (arith, split-sum rules s.common_water_percent (hot_water whole_wh s), hot_water_le)

  pub common_water_le : (water_parts whole_wh rules s).common ≤ 4000000000
  unfolding water_parts hot_water_wh
  common_water_le = omega (arith, split-sum rules s.common_water_percent (hot_water whole_wh s), hot_water_le)

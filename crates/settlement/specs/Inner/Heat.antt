-- What the functions of units' heat may rely on.
use Rattle.std.specs.Prelude.{◌≡◌, false, List, ℕ, ◌≤◌, ◌<◌, replicate}
use Rattle.apportion.specs.Shares.{sum}
use Rattle.sheet.specs.declared.rule_set.RuleSet.{RuleSet}
use Rattle.sheet.specs.Layout.{Sheet}
use Rattle.month.specs.Weights.{all_metered}
use Rattle.month.specs.Steps.{whole_wh, split_by, heat_parts, energies_with}
use Rattle.weights.specs.Inner.Months.{sheet_of_month}
use Rattle.settlement.specs.declared.divide.Parts.{Parts}
use Rattle.weights.specs.declared.accepted.Month.{Month}

-- (100 − percent, percent) parts a total alike by all rules
pub record SplitParts (percent total : ℕ) (parts : Parts) : Type 0 where
  pub units : (rules : RuleSet) → parts.units ≡ (split_by whole_wh rules percent total).of_units
  pub common : (rules : RuleSet) → parts.common ≡ (split_by whole_wh rules percent total).common

-- step 2
pub record HeatParts (rules : RuleSet) (s : Sheet) (parts : Parts) : Type 0 where
  pub units : parts.units ≡ (heat_parts whole_wh rules s).of_units
  pub common : parts.common ≡ (heat_parts whole_wh rules s).common

-- units' heat of a month, and a list of zeros for 160 units
pub record UnitsHeat (m : Month) (total : ℕ) (out : List ℕ) : Type 0 where
  pub total-is : total ≡ (heat_parts whole_wh m.basis.rules (sheet_of_month m)).of_units
  pub zeros : out ≡ replicate 160 0

-- models 3 to 5, step 2's exception apart
pub record ByReadings (m : Month) (total : ℕ) (out : List ℕ) : Type 0 where
  pub asked : UnitsHeat m total out
  pub model : 2 < (sheet_of_month m).model
  pub unmetered : all_metered (sheet_of_month m) ≡ false

-- a month with the units' heat of step 2, and what steps 5 and 7 divide
pub record Charged (m : Month) (parts : Parts) (bill : ℕ) : Type 0 where
  pub units : parts.units ≡ (heat_parts whole_wh m.basis.rules (sheet_of_month m)).of_units
  pub common-fits : parts.common ≤ 4000000000
  pub bill-fits : bill ≤ 400000000
  pub divisible : sum (energies_with whole_wh m.basis.rules (sheet_of_month m) parts.common) ≡ 0 → bill ≡ 0

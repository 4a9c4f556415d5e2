-- What a division goes by: which units take part, and with what weight (document 01, steps 3 to 6).
use Rattle.std.specs.Prelude.{Bool, true, not, List, map, ℕ}
use Rattle.sheet.specs.declared.rule_set.RuleSet.{RuleSet}
use Rattle.sheet.specs.Layout.{UnitRow, Sheet}
use Rattle.month.specs.Weights.{those, is_read, unread_weight, read_weight, water_weight, common_water_weight}
use Rattle.weights.specs.declared.gather.By.{By}
use Rattle.weights.specs.declared.gather.By.TheVariants.{Load, Area, Unread, Read, Water, Persons}

abbrev pub takes_part : By → UnitRow → Bool
takes_part Load u = true
takes_part Area u = true
takes_part Unread u = not (is_read u)
takes_part Read u = is_read u
takes_part Water u = true
takes_part Persons u = true

abbrev pub weight_of : RuleSet → By → Sheet → UnitRow → ℕ
weight_of rules Load s u = u.heat_load
weight_of rules Area s u = u.heated_area
weight_of rules Unread s u = unread_weight s u
weight_of rules Read s u = read_weight rules s u
weight_of rules Water s u = water_weight s u
weight_of rules Persons s u = common_water_weight u

unfoldable pub weights_by : RuleSet → By → Sheet → List ℕ
weights_by rules by s = map (weight_of rules by s) (those (takes_part by) s.units)

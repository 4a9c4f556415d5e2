use mathlib.Core.Path.{◌≡◌, ◌∙◌}
use Prim.Native.Nat.{ℕ}
use native.Mathlib.Omega.{arith}
use Rattle.sheet.specs.Layout.{Sheet}
use Rattle.weights.specs.Inner.Months.{sheet_of_month}
use Rattle.weights.proofs.Ready.{month_accepted}
use Rattle.sheet.specs.declared.rule_set.RuleSet.{RuleSet}
use Rattle.month.specs.Steps.{whole_wh, water_parts}
use Rattle.month.specs.Month.{hot_water_wh}
use Rattle.settlement.specs.declared.divide.Parts.{Parts}
use Rattle.settlement.specs.Inner.Heat.{SplitParts}
use Rattle.settlement.proofs.Dividing.{weighed_water, persons-water, water-is, common_water-is}
use Rattle.settlement.proofs.water.water_shares.Goals as goal

-- the two parts
of_units : (rules : RuleSet) (s : Sheet) (percent h : ℕ) (parts : Parts) → percent ≡ s.common_water_percent → h ≡ hot_water_wh s → SplitParts percent h parts → parts.units ≡ (water_parts whole_wh rules s).of_units
unfolding water_parts hot_water_wh
of_units rules s percent h parts d e p = p.units rules ∙ (cc)

of_common : (rules : RuleSet) (s : Sheet) (percent h : ℕ) (parts : Parts) → percent ≡ s.common_water_percent → h ≡ hot_water_wh s → SplitParts percent h parts → parts.common ≡ (water_parts whole_wh rules s).common
unfolding water_parts hot_water_wh
of_common rules s percent h parts d e p = p.common rules ∙ (cc)

pub split-parts-requires : goal.split-parts-requires
split-parts-requires c =
    let m = c.args.month.now in
    let a = month_accepted m in
    (omega (arith, m.water_is, a.water-fits, a.checked-sheet.header.shared_meter), omega (arith, c.from-percent.ensures, c.header.ensures, a.checked-sheet.header.common_water_percent_high))

pub divide_by-requires : goal.divide_by-requires
divide_by-requires c =
    let m = c.args.month.now in
    let e = of_units m.basis.rules (sheet_of_month m) _ _ _ (c.from-percent.ensures ∙ c.header.ensures) m.water_is c.split-parts.ensures in
    (c.requires.0, rw e (weighed_water m))

pub divide_by-requires-2 : goal.divide_by-requires-2
divide_by-requires-2 c =
    let m = c.args.month.now in
    let e = of_common m.basis.rules (sheet_of_month m) _ _ _ (c.from-percent.ensures ∙ c.header.ensures) m.water_is c.split-parts.ensures in
    (c.requires.1, rw e (persons-water m))

pub returns : goal.returns
returns c =
    let m = c.args.month.now in
    let percent = c.from-percent.ensures ∙ c.header.ensures in
    record {
      units_after = water-is m c.divide_by.new.out (of_units m.basis.rules (sheet_of_month m) _ _ _ percent m.water_is c.split-parts.ensures) c.divide_by.ensures;
      common_after = common_water-is m c.divide_by-2.new.out (of_common m.basis.rules (sheet_of_month m) _ _ _ percent m.water_is c.split-parts.ensures) c.divide_by-2.ensures;
    }

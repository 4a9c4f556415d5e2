use mathlib.Core.Path.{◌≡◌, refl, sym, ◌∙◌}
use Prim.Native.Nat.{◌<◌}
use native.Mathlib.Omega.{arith}
use Rattle.sheet.specs.declared.codes.Model.{Model}
use Rattle.sheet.specs.declared.codes.Model.TheVariants.{ByLoad, ByArea, ByAllocatorsAndArea, ByAllocatorsAndRisers, ByMeters}
use Rattle.sheet.specs.Inner.Codes.{model_code}
use Rattle.settlement.proofs.Dividing.{load-heat, area-heat, load_is, area-is}
use Rattle.settlement.proofs.heat.unit_heat.Goals as goal

other : (m : Model) → (m ≡ ByLoad → ⊥) → (m ≡ ByArea → ⊥) → 2 < model_code m
other ByLoad h k = absurd (h refl)
other ByArea h k = absurd (k refl)
other ByAllocatorsAndArea h k = omega arith
other ByAllocatorsAndRisers h k = omega arith
other ByMeters h k = omega arith

pub heat_by_meters-requires : goal.heat_by_meters-requires
heat_by_meters-requires c = sym c.all_metered.ensures ∙ c.if-all_metered.true

pub divide_by-requires : goal.divide_by-requires
divide_by-requires c = let p = c.requires in (p.zeros, rw p.total-is (load-heat c.args.month.now (sym c.in-ByLoad.ensures)))

pub returns-in-ByLoad : goal.returns-in-ByLoad
returns-in-ByLoad c = load_is c.args.month.now c.divide_by.new.out (sym c.in-ByLoad.ensures) c.requires.total-is c.divide_by.ensures

pub divide_by-requires-in-ByArea : goal.divide_by-requires-in-ByArea
divide_by-requires-in-ByArea c = let p = c.requires in (p.zeros, rw p.total-is (area-heat c.args.month.now))

pub returns-in-ByArea : goal.returns-in-ByArea
returns-in-ByArea c = area-is c.args.month.now c.divide_by-in-ByArea.new.out (sym c.in-ByArea.ensures) c.requires.total-is c.divide_by-in-ByArea.ensures

pub heat_by_readings-requires : goal.heat_by_readings-requires
heat_by_readings-requires c = record {
  asked = c.requires;
  model = omega (arith, c.model.ensures, other c.model.result c.in_default.not-ByLoad c.in_default.not-ByArea);
  unmetered = sym c.all_metered.ensures ∙ c.if-all_metered.false;
}

use mathlib.Core.Path.{◌≡◌, sym, ◌∙◌}
use mathlib.Core.Bool.{true}
use native.Mathlib.Omega.{arith}
use Rattle.weights.specs.Inner.Months.{sheet_of_month}
use Rattle.weights.proofs.Ready.{month_accepted}
use Rattle.month.specs.Weights.{all_metered, metered_sum}
use Rattle.month.specs.Steps.{space_heat, heat_parts}
use Rattle.month.specs.Month.{hot_water_wh, space_heat_wh}
use Rattle.weights.specs.declared.accepted.Month.{Month}
use Rattle.settlement.proofs.heat.heat_parts.Goals as goal

is-C : (m : Month) → all_metered (sheet_of_month m) ≡ true → m.metered ≡ metered_sum (sheet_of_month m)
is-C m e = m.metered_is ∙ rw e

pub overflow_sub-space_heat : goal.overflow_sub-space_heat
overflow_sub-space_heat c = let m = c.args.month.now in omega (arith, c.from.ensures, c.header.ensures, m.water_is, (month_accepted m).water-fits)

pub overflow_sub-result : goal.overflow_sub-result
unfolding space_heat_wh space_heat hot_water_wh
overflow_sub-result c =
    let m = c.args.month.now in
    let exception = sym c.all_metered.ensures ∙ c.if-all_metered.true in
    omega (arith, (month_accepted m).meters_fit exception, is-C m exception, c.from.ensures, c.header.ensures, m.water_is)

pub returns-then-all_metered : goal.returns-then-all_metered
unfolding heat_parts space_heat hot_water_wh
returns-then-all_metered c =
    let m = c.args.month.now in
    let exception = sym c.all_metered.ensures ∙ c.if-all_metered.true in
    let e = is-C m exception in
    let from = c.from.ensures ∙ c.header.ensures in
    record { units = rw exception e; common = rw exception (cc (m.water_is)) }

pub split-requires : goal.split-requires
split-requires c =
    let m = c.args.month.now in
    let h = (month_accepted m).checked-sheet.header in
    (omega (arith, c.from.ensures, c.header.ensures, h.shared_meter), omega (arith, c.from-percent.ensures, c.header-2.ensures, h.common_heat_percent_high))

pub returns : goal.returns
unfolding heat_parts space_heat hot_water_wh
returns c =
    let m = c.args.month.now in
    let e = sym c.all_metered.ensures ∙ c.if-all_metered.false in
    let parts = c.split.ensures in
    let rules = m.basis.rules in
    let from = c.from.ensures ∙ c.header.ensures in
    let percent = c.from-percent.ensures ∙ c.header-2.ensures in
    record { units = rw e (parts.units rules ∙ (cc (m.water_is))); common = rw e (parts.common rules ∙ (cc (m.water_is))) }

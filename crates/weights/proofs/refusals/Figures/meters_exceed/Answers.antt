use mathlib.Core.Path.{ap₂, ◌∙◌}
use Prim.Native.Nat.{◌-◌}
use Rattle.sheet.specs.Layout.{sheet_of}
use Rattle.sheet.specs.Inner.Sums.{past_sum}
use Rattle.sheet.proofs.Amounts.{past_amount}
use Rattle.month.specs.Steps.{space_heat}
use Rattle.month.specs.Month.{space_heat_wh, hot_water_wh}
use Rattle.month.proofs.Bounds.{sum_bounds}
use Rattle.weights.specs.Inner.Metered.{metered_heat}
use Rattle.weights.proofs.Ready.{passes}
use Rattle.weights.proofs.Tests.{past-metered, metered_fits}
use Rattle.weights.proofs.refusals.Figures.meters_exceed.Goals as goal

pub returns : goal.returns
unfolding space_heat_wh space_heat hot_water_wh
returns c =
    let f = c.args.self.now in
    let s = sheet_of f.basis.sheet.bytes.now in
    let fits = metered_fits s (sum_bounds s (passes f.basis)).metered in
    c.sum_past.ensures
    ∙ ap₂ past_sum f.metered_is (ap₂ ◌-◌ (c.from.ensures ∙ c.header.ensures) f.water_is)
    ∙ past_amount (metered_heat s) (space_heat_wh s) fits
    ∙ past-metered s (space_heat_wh s)

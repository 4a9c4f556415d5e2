use mathlib.Core.Path.{refl, sym, ap, subst, ◌∙◌}
use Rattle.std.specs.Prelude.{IsOk}
use Rattle.sheet.specs.Refusals.{Outcome}
use Rattle.sheet.specs.Layout.{sheet_of}
use Rattle.sheet.specs.Inner.Sums.{wh_in_sum}
use Rattle.sheet.proofs.Amounts.{amount_number}
use Rattle.month.proofs.Bounds.{sum_bounds}
use Rattle.weights.specs.Inner.Metered.{metered_heat}
use Rattle.weights.proofs.Ready.{passes}
use Rattle.weights.proofs.Tests.{metered_fits}
use Rattle.weights.proofs.accepted.Month.measure.Goals as goal

pub invariant_of-result : goal.invariant_of-result
invariant_of-result c =
    let f = c.of-figures.result in
    let s = sheet_of f.basis.sheet.bytes.now in
    record {
      accepted = subst (λ (o : Outcome). IsOk o) (sym (sym c.check.ensures ∙ c.in_ok-check.was)) refl;
      water_is = f.water_is;
      metered_is = c.sum_number.ensures ∙ ap wh_in_sum f.metered_is ∙ amount_number (metered_heat s) (metered_fits s (sum_bounds s (passes f.basis)).metered);
    }

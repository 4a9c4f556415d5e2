use mathlib.Core.Path.{◌≡◌, refl, sym, ap, ap₂, ◌∙◌}
use mathlib.Core.Bool.{false}
use lib.Dec.{eqb}
use Rattle.sheet.specs.declared.codes.Model.{Model}
use Rattle.sheet.specs.declared.codes.Model.TheVariants.{ByLoad, ByArea, ByAllocatorsAndArea, ByAllocatorsAndRisers, ByMeters}
use Rattle.sheet.specs.Inner.Codes.{model_code}
use Rattle.sheet.specs.Layout.{sheet_of}
use Rattle.month.specs.Weights.{all_metered}
use Rattle.weights.specs.declared.totals.Totals.{Totals}
use Rattle.weights.proofs.Tests.{all_read}
use Rattle.weights.proofs.metered.all_metered.Goals as goal

other : (m : Model) → (m ≡ ByMeters → ⊥) → false ≡ eqb (model_code m) 5
other ByLoad h = refl
other ByArea h = refl
other ByAllocatorsAndArea h = refl
other ByAllocatorsAndRisers h = refl
other ByMeters h = absurd (h refl)

pub returns-in-ByMeters : goal.returns-in-ByMeters
unfolding all_metered
returns-in-ByMeters c =
    let b = c.args.basis.now in
    let f = b.sheet.fits in
    rw (← c.in-ByMeters.ensures) (ap₂ eqb (ap (λ (t : Totals). t.read) b.summed) (c.unit_count.ensures.0 ∙ sym f.units_length) ∙ all_read (sheet_of b.sheet.bytes.now).units)

pub returns-in_default : goal.returns-in_default
unfolding all_metered
returns-in_default c = rw (← c.model.ensures, ← other c.model.result c.in_default.not-ByMeters)

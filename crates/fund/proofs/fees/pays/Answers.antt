use mathlib.Core.Path.{◌≡◌, refl}
use mathlib.Core.Bool.{true, false}
use mathlib.Core.Logic.{◌⊎◌, inl, inr}
use lib.Dec.{leb}
use Rattle.sheet.specs.declared.codes.Model.{Model}
use Rattle.sheet.specs.declared.codes.Model.TheVariants.{ByLoad, ByArea, ByAllocatorsAndArea, ByAllocatorsAndRisers, ByMeters}
use Rattle.sheet.specs.Inner.Codes.{model_code}
use Rattle.fund.specs.Fees.{pays}
use Rattle.fund.proofs.fees.pays.Goals as goal

by_size : (m : Model) → (m ≡ ByLoad) ⊎ (m ≡ ByArea) → leb (model_code m) 2 ≡ true
by_size m (inl e) = rw e refl
by_size m (inr e) = rw e refl

by_readings : (m : Model) → (m ≡ ByLoad → ⊥) → (m ≡ ByArea → ⊥) → leb (model_code m) 2 ≡ false
by_readings ByLoad h k = absurd (h refl)
by_readings ByArea h k = absurd (k refl)
by_readings ByAllocatorsAndArea h k = refl
by_readings ByAllocatorsAndRisers h k = refl
by_readings ByMeters h k = refl

pub returns-in-ByLoad : goal.returns-in-ByLoad
unfolding pays
returns-in-ByLoad c = rw (← c.model.ensures, by_size c.model.result c.in-ByLoad.is) refl

pub returns-in_default : goal.returns-in_default
unfolding pays
returns-in_default c = rw (← c.model.ensures, by_readings c.model.result c.in_default.not-ByLoad c.in_default.not-ByArea) c.has_no_device.ensures

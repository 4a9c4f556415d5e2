use mathlib.Core.Path.{◌≡◌, refl}
use mathlib.Core.Bool.{Bool, true, false, ◌&&◌, ◌||◌}
use mathlib.Core.List.{[], ◌∷◌}
use Prim.Native.Nat.{ℕ}
use lib.Dec.{eqb}
use Rattle.sheet.specs.declared.codes.Model.{Model}
use Rattle.sheet.specs.declared.codes.Model.TheVariants.{ByLoad, ByArea, ByAllocatorsAndArea, ByAllocatorsAndRisers, ByMeters}
use Rattle.sheet.specs.Inner.Codes.{model_code}
use Rattle.sheet.specs.Tests.{any}
use Rattle.weights.proofs.refusals.zero_heat_divisor.Goals as goal

abbrev divisor : ℕ → (load surface : ℕ) → Bool
divisor code load surface = any ((eqb code 1 && eqb load 0) ∷ (eqb code 4 && eqb surface 0) ∷ [])

other : (m : Model) (load surface : ℕ) → (m ≡ ByLoad → ⊥) → (m ≡ ByAllocatorsAndRisers → ⊥) → false ≡ divisor (model_code m) load surface
unfolding any
other ByLoad load surface h k = absurd (h refl)
other ByArea load surface h k = refl
other ByAllocatorsAndArea load surface h k = refl
other ByAllocatorsAndRisers load surface h k = absurd (k refl)
other ByMeters load surface h k = refl

or_false : (t : Bool) → t ≡ t || false
or_false true = refl
or_false false = refl

pub returns-in-ByLoad : goal.returns-in-ByLoad
unfolding any
returns-in-ByLoad c = rw (← c.in-ByLoad.ensures) (or_false _)

pub returns-in-ByAllocatorsAndRisers : goal.returns-in-ByAllocatorsAndRisers
unfolding any
returns-in-ByAllocatorsAndRisers c = rw (← c.in-ByAllocatorsAndRisers.ensures) (or_false _)

pub returns-in_default : goal.returns-in_default
returns-in_default c = rw (← c.model.ensures) (other c.model.result c.args.basis.now.totals.load c.args.basis.now.totals.surface c.in_default.not-ByLoad c.in_default.not-ByAllocatorsAndRisers)

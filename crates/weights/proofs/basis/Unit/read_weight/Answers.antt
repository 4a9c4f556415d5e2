use Rattle.std.specs.Prelude.{if◌then◌else◌}
use mathlib.Core.Path.{◌≡◌, refl, sym, ap, ◌∙◌}
use mathlib.Core.Bool.{Bool, true, false}
use Prim.Native.Nat.{ℕ, ◌*◌}
use native.Mathlib.Omega.{arith}
use lib.Dec.{eqb}
use borrow.Author.Tests.{eq-eqb, ne_eqb}
use Rattle.sheet.specs.declared.codes.Model.{Model}
use Rattle.sheet.specs.declared.codes.Model.TheVariants.{ByLoad, ByArea, ByAllocatorsAndArea, ByAllocatorsAndRisers, ByMeters}
use Rattle.sheet.specs.Inner.Codes.{model_code}
use Rattle.sheet.specs.Inner.Views.{sheet_in}
use Rattle.month.specs.Weights.{reading_sum, read_weight}
use Rattle.weights.specs.declared.basis.Unit.{Unit}
use Rattle.weights.specs.declared.totals.Totals.{Totals}
use Rattle.weights.proofs.Ready.{unit_summed}
use Rattle.weights.proofs.basis.Unit.read_weight.Goals as goal

no_readings : (u : Unit) → u.basis.now.totals.readings ≡ 0 → eqb (reading_sum (sheet_in u.row)) 0 ≡ true
no_readings u e = eq-eqb _ 0 (sym (ap (λ (t : Totals). t.readings) (unit_summed u)) ∙ e)

some_readings : (u : Unit) → (u.basis.now.totals.readings ≡ 0 → ⊥) → eqb (reading_sum (sheet_in u.row)) 0 ≡ false
some_readings u h = ne_eqb _ 0 (λ e. h (ap (λ (t : Totals). t.readings) (unit_summed u) ∙ e))

other : (m : Model) → (m ≡ ByAllocatorsAndArea → ⊥) → (m ≡ ByAllocatorsAndRisers → ⊥) → (eqb (model_code m) 3 ≡ false) × (eqb (model_code m) 4 ≡ false)
other ByLoad h k = (refl, refl)
other ByArea h k = (refl, refl)
other ByAllocatorsAndArea h k = absurd (h refl)
other ByAllocatorsAndRisers h k = absurd (k refl)
other ByMeters h k = (refl, refl)

by_model : (t : Bool) (x y k : ℕ) → (if t then x else y) * k ≡ (if t then x * k else y * k)
by_model true x y k = refl
by_model false x y k = refl

pub returns-then-self-eq0 : goal.returns-then-self-eq0
unfolding read_weight
returns-then-self-eq0 c = rw (no_readings c.args.self c.if-self-eq0.true) (c.factor_weight.ensures ∙ by_model (eqb (sheet_in c.args.self.row).model 4) _ _ _)

pub returns-in-ByAllocatorsAndArea : goal.returns-in-ByAllocatorsAndArea
unfolding read_weight
returns-in-ByAllocatorsAndArea c = rw (some_readings c.args.self c.if-self-eq0.false, eq-eqb (sheet_in c.args.self.row).model 3 (sym c.in-ByAllocatorsAndArea.ensures)) c.area_weight.ensures

pub returns-in-ByAllocatorsAndRisers : goal.returns-in-ByAllocatorsAndRisers
unfolding read_weight
returns-in-ByAllocatorsAndRisers c =
    let model = (sheet_in c.args.self.row).model in
    let e : 4 ≡ model = c.in-ByAllocatorsAndRisers.ensures in
    rw (some_readings c.args.self c.if-self-eq0.false, ne_eqb model 3 (λ z. omega arith), eq-eqb model 4 (sym e)) c.surface_weight.ensures

pub returns-in_default : goal.returns-in_default
unfolding read_weight
returns-in_default c =
    let e = other c.model.result c.in_default.not-ByAllocatorsAndArea c.in_default.not-ByAllocatorsAndRisers in
    rw (some_readings c.args.self c.if-self-eq0.false, sym (ap (λ (x : ℕ). eqb x 3) c.model.ensures) ∙ e.0, sym (ap (λ (x : ℕ). eqb x 4) c.model.ensures) ∙ e.1)
    (c.from.ensures ∙ c.field.ensures)

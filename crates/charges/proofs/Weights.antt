-- The weights of a call: as they are read, how many, and their sum. Assumes nothing.
use mathlib.Core.Path.{◌≡◌, refl, sym}
use mathlib.Core.Logic.{inl, inr}
use mathlib.Core.Bool.{false}
use mathlib.Core.List.{List, [], ◌∷◌, map, map-append}
use Prim.Native.Nat.{ℕ, ◌+◌, ◌≤◌, ◌<◌}
use native.Mathlib.Omega.{arith}
use native.Mathlib.Numerals.{add-one}
use borrow.Author.Tests.{ne_eqb}
use lib.Dec.{eqb}
use lib.ListN.{length, take, set, length-map}
use lib.Seq.{take-suc-set}
use Rattle.apportion.specs.Shares.{sum}
use Rattle.sheet.specs.Layout.{UnitRow, Sheet, sheet_of}
use Rattle.sheet.specs.Inner.Fields.{unit_of, row_field}
use Rattle.sheet.proofs.Units.{units-next}
use Rattle.month.specs.Weights.{sum_of, total_area}
use Rattle.month.specs.Inner.Accepted.{CheckedSheet}
use Rattle.month.proofs.Lists.{decided}
use Rattle.month.proofs.Accepted.{checked-area}
use Rattle.month.proofs.Bounds.{sum_bounds}
use Rattle.charges.specs.Charges.{charge_weights}
use Rattle.charges.specs.Answer.{other_model, no_load}
use Rattle.charges.specs.declared.models.ChargeModel.{ChargeModel}
use Rattle.charges.specs.declared.models.ChargeModel.TheVariants.{ByLoad, ByArea}
use Rattle.charges.specs.Inner.Models.{model_code, field_by}

-- one unit more
pub next_weight : (f : UnitRow → ℕ) (s out : List ℕ) (i v : ℕ) → i < (sheet_of s).unit_count → i < length out → v ≡ f (unit_of (sheet_of s) i)
    → take i out ≡ map f (take i (sheet_of s).units) → take (i + 1) (set out i v) ≡ map f (take (i + 1) (sheet_of s).units)
next_weight f s out i v h l e inv =
    let us = (sheet_of s).units in
    let u = unit_of (sheet_of s) i in
    rw (units-next s i h, map-append f (take i us) (u ∷ []), add-one, take-suc-set out i v l, inv, e)

-- 1 and 2 stand for a model
pub known_model : (m : ChargeModel) {model : ℕ} → model_code m ≡ model → other_model model ≡ false
known_model ByLoad e = rw (← e) refl
known_model ByArea e = rw (← e) refl

-- by a row's field
pub weights_are : (model : ChargeModel) (s : Sheet) → map (λ u. row_field u (field_by model)) s.units ≡ charge_weights (model_code model) s
unfolding charge_weights
weights_are ByLoad s = refl
weights_are ByArea s = refl

module _ (model : ℕ) (s : Sheet) where
  pub weights-count : length (charge_weights model s) ≡ length s.units
  unfolding charge_weights
  weights-count = elim (decided (eqb model 1)) [ inl e ↦ rw e (length-map s.units (λ u. u.heat_load)) | inr e ↦ rw e (length-map s.units (λ u. u.heated_area)) ]

  module _ (c : CheckedSheet s) where
    pub sum-small : sum (charge_weights model s) ≤ 16000000
    unfolding charge_weights total_area
    sum-small = elim (decided (eqb model 1)) [ inl e ↦ rw e (sum_bounds s c).heat_loads | inr e ↦ rw e (omega (arith, (sum_bounds s c).total_area_lem)) ]

    -- 9 is where the weights add to 0: areas never do
    pub load-test : no_load model s ≡ eqb (sum (charge_weights model s)) 0
    unfolding charge_weights no_load
    load-test = elim (decided (eqb model 1)) [
      | inl e ↦ rw e
      | inr e ↦ rw e (sym (ne_eqb (sum_of (λ u. u.heated_area) s.units) 0 (λ z. omega (arith, checked-area s c))))
    ]

-- One unit more in lists that a loop over the rows writes. Assumes nothing.
use Rattle.std.specs.Prelude.{if◌then◌else◌}
use mathlib.Core.Path.{◌≡◌, refl, sym, ap, ◌∙◌}
use mathlib.Core.Logic.{inl, inr}
use mathlib.Core.Bool.{Bool, true, false, ◌||◌}
use mathlib.Core.List.{List, [], ◌∷◌, ◌++◌, map, map-append, append-nil}
use Prim.Native.Nat.{ℕ, zero, suc, ◌+◌, ◌*◌, ◌≤◌, ◌<◌}
use native.Mathlib.Omega.{arith}
use native.Mathlib.Numerals.{add-one}
use native.Mathlib.Nat.{add-zero, mul-le-mul}
use lib.ListN.{length, take, set}
use lib.Seq.{take-set-le, take-suc-set}
use Rattle.apportion.specs.Shares.{bit}
use lib.Dec.{eqb}
use borrow.Author.Tests.{eqb-false}
use Rattle.sheet.specs.Layout.{UnitRow, Sheet, sheet_of}
use Rattle.sheet.specs.Inner.Fields.{unit_of}
use Rattle.sheet.specs.Inner.Fits.{UnitFits}
use Rattle.sheet.proofs.Units.{units-next}
use Rattle.month.specs.Weights.{those, is_read, common_water_weight}
use Rattle.month.proofs.Lists.{decided}
use Rattle.weights.specs.Inner.Totals.{only_if}

-- ---- products
pub two_le : {a b x y : ℕ} → a ≤ x → b ≤ y → a * b ≤ x * y
two_le h g = mul-le-mul h g

-- ---- one unit more
pub bit_le : (t : Bool) → bit t ≤ 1
bit_le true = omega arith
bit_le false = omega arith

those_append : (test : UnitRow → Bool) (xs ys : List UnitRow) → those test (xs ++ ys) ≡ those test xs ++ those test ys
those_append test [] ys = refl
those_append test (x ∷ xs) ys =
    elim (decided (test x)) [ inl e ↦ rw e (ap (λ (us : List UnitRow). x ∷ us) (those_append test xs ys)) | inr e ↦ rw e (those_append test xs ys) ]

module _ (p : UnitRow → Bool) (f : UnitRow → ℕ) where
  -- the weights of the units that take part
  abbrev pub chosen : List UnitRow → List ℕ
  chosen us = map f (those p us)

  chosen_more : (us : List UnitRow) (u : UnitRow) → chosen (us ++ (u ∷ [])) ≡ chosen us ++ chosen (u ∷ [])
  chosen_more us u = ap (map f) (those_append p us (u ∷ [])) ∙ map-append f (those p us) (those p (u ∷ []))

  turn : (out : List ℕ) (m v b : ℕ) (us : List UnitRow) (u : UnitRow) → m < length out → v ≡ f u → b ≡ bit (p u) → take m out ≡ chosen us
      → take (m + b) (set out m v) ≡ chosen (us ++ (u ∷ []))
  turn out m v b us u h e g i =
      elim (decided (p u)) [
        | inl y ↦ rw (chosen_more us u, g, y, add-one, take-suc-set out m v h, i, e)
        | inr y ↦ rw (chosen_more us u, g, y, add-zero, take-set-le m out m v (omega arith), i) (sym (append-nil _))
      ]

  pub turn-row : (s out : List ℕ) (i m v b : ℕ) → i < (sheet_of s).unit_count → m < length out → v ≡ f (unit_of (sheet_of s) i) → b ≡ bit (p (unit_of (sheet_of s) i))
      → take m out ≡ chosen (take i (sheet_of s).units) → take (m + b) (set out m v) ≡ chosen (take (i + 1) (sheet_of s).units)
  turn-row s out i m v b l h e g q = turn out m v b (take i (sheet_of s).units) (unit_of (sheet_of s) i) h e g q ∙ ap chosen (sym (units-next s i l))

-- ---- a unit of class 0 has no persons
pub persons_counted : {s : Sheet} {u : UnitRow} → UnitFits s u → u.persons ≡ common_water_weight u
persons_counted {s} {u} h = go u.water_class u.persons h.water_class h.no_persons
  where
    go : (c p : ℕ) → c ≤ 2 → (c ≡ 0 → p ≡ 0) → p ≡ (if eqb c 1 || eqb c 2 then p else 0)
    go zero p l z = z refl
    go (suc zero) p l z = refl
    go (suc (suc zero)) p l z = refl
    go (suc (suc (suc c))) p l z = absurd (omega arith)

-- ---- a unit of another class than 1 has no litres, one that isn't read no reading
only_where : (t : Bool) {x : ℕ} → (t ≡ false → x ≡ 0) → x ≡ only_if t x
only_where true h = refl
only_where false h = h refl

pub litres_counted : {s : Sheet} {u : UnitRow} → UnitFits s u → u.litres ≡ only_if (eqb u.water_class 1) u.litres
litres_counted {u = u} h = only_where (eqb u.water_class 1) (λ e. h.no_litres (eqb-false u.water_class 1 e))

pub reading_counted : {s : Sheet} {u : UnitRow} → UnitFits s u → u.reading ≡ only_if (is_read u) u.reading
reading_counted {u = u} h = only_where (is_read u) (λ e. let some = eqb-false u.status 0 e in h.no_reading (omega arith))

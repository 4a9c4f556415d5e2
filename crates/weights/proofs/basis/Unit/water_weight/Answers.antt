use Rattle.std.specs.Prelude.{if◌then◌else◌}
use mathlib.Core.Path.{◌≡◌, refl, sym, ap, ◌∙◌}
use mathlib.Core.Bool.{Bool, true, false}
use Prim.Native.Nat.{ℕ, zero, suc, ◌+◌, ◌*◌, ◌≤◌}
use native.Mathlib.Omega.{arith}
use native.Mathlib.Nat.{mul_comm, mul_assoc}
use lib.Dec.{eqb}
use Rattle.sheet.specs.Inner.Views.{sheet_in, unit_in}
use Rattle.month.specs.Weights.{units_of_class, litres_of_class1, persons_of_class2, water_weight}
use Rattle.weights.specs.Inner.Totals.{only_if}
use Rattle.weights.specs.declared.totals.Totals.{Totals}
use Rattle.weights.proofs.Rows.{two_le}
use Rattle.weights.proofs.Ready.{row_fits, unit_summed, within}
use Rattle.weights.proofs.basis.Unit.water_weight.Goals as goal

in-class : (alone : Bool) (x units amount : ℕ) → (if alone then 1 else units * amount) * x ≡ (if alone then x else units * x * amount)
in-class true x units amount = omega arith
in-class false x units amount = mul_assoc units amount x ∙ ap (λ (y : ℕ). units * y) (mul_comm amount x) ∙ sym (mul_assoc units x amount)

weighed : (class x y n1 n2 L N2 : ℕ) → class ≤ 2
    → only_if (eqb class 1) ((if eqb n2 0 then 1 else n1 * N2) * x) + only_if (eqb class 2) ((if eqb n1 0 then 1 else n2 * L) * y)
    ≡ (if eqb class 1 then (if eqb n2 0 then x else n1 * x * N2) else if eqb class 2 then (if eqb n1 0 then y else n2 * y * L) else 0)
weighed zero x y n1 n2 L N2 h = refl
weighed (suc zero) x y n1 n2 L N2 h = omega (arith, in-class (eqb n2 0) x n1 N2)
weighed (suc (suc zero)) x y n1 n2 L N2 h = omega (arith, in-class (eqb n1 0) y n2 L)
weighed (suc (suc (suc k))) x y n1 n2 L N2 h = absurd (omega arith)

pub class_factor-litre-requires : goal.class_factor-litre-requires
class_factor-litre-requires c = let t = within c.args.self.basis.now in (omega (arith, t.class1), omega (arith, t.persons2))

pub class_factor-person-requires : goal.class_factor-person-requires
class_factor-person-requires c = let t = within c.args.self.basis.now in (omega (arith, t.class2), omega (arith, t.litres))

pub overflow_mul-litre : goal.overflow_mul-litre
overflow_mul-litre c =
    let l : c.from.result ≤ 1000000 = omega (arith, c.from.ensures, c.field.ensures, (row_fits c.args.self.row).litres) in
    omega (arith, two_le c.class_factor-litre.ensures.1 l)

pub overflow_mul-person : goal.overflow_mul-person
overflow_mul-person c =
    let l : c.from-2.result ≤ 50 = omega (arith, c.from-2.ensures, c.field-2.ensures, (row_fits c.args.self.row).persons) in
    omega (arith, two_le c.class_factor-person.ensures.1 l)

pub returns : goal.returns
unfolding water_weight
returns c =
    let row = c.args.self.row in
    let s = sheet_in row in
    let u = unit_in row in
    let t = unit_summed c.args.self in
    rw (
      c.only_if.ensures,
      c.only_if-2.ensures,
      c.is_by_volume.ensures,
      c.is_by_persons.ensures,
      c.class_factor-litre.ensures.0,
      c.class_factor-person.ensures.0,
      c.from.ensures,
      c.field.ensures,
      c.from-2.ensures,
      c.field-2.ensures,
      ap (λ (t : Totals). t.class1) t,
      ap (λ (t : Totals). t.class2) t,
      ap (λ (t : Totals). t.persons2) t,
      ap (λ (t : Totals). t.litres) t,
    )
    (weighed u.water_class u.litres u.persons (units_of_class 1 s) (units_of_class 2 s) (litres_of_class1 s) (persons_of_class2 s) (row_fits row).water_class)

use mathlib.Core.Path.{◌≡◌, ap, ap₂, ◌∙◌}
use Prim.Native.Nat.{ℕ, suc, ◌-◌}
use native.Mathlib.Omega.{arith}
use lib.Dec.{leb}
use Rattle.sheet.specs.Layout.{sheet_of}
use Rattle.sheet.specs.Inner.Fields.{unit_of, id_before}
use Rattle.sheet.specs.Check.{not_above}
use Rattle.sheet.proofs.check.not_above.Goals as goal

pub returns : goal.returns
returns c =
    let a = c.args in
    let s = sheet_of a.s.now in
    let e : suc (a.i - 1) ≡ a.i = omega arith in
    ap₂ leb c.unit_field.ensures c.unit_field-2.ensures ∙ ap (λ (i : ℕ). not_above (unit_of s a.i).id (id_before s i)) e

-- A loop over the rows of a sheet, which has given xs so far. Assumes nothing.
use mathlib.Core.Path.{◌≡◌, sym, ap, subst, ◌∙◌}
use mathlib.Core.List.{List, [], ◌∷◌}
use Prim.Native.Nat.{ℕ, suc, ◌≤◌, ◌<◌}
use native.Mathlib.Nat.{add-zero}
use native.Mathlib.Omega.{arith}
use lib.ListN.{length, get_or, drop, length-drop}
use Rattle.std.proofs.lemmas.List.{get_or-drop}
use Rattle.std.proofs.Common.{Bor}
use Rattle.std.specs.Prelude.{Option, None, Some}
use Rattle.std.specs.Iterator.{Yields}
use Rattle.sheet.specs.declared.view.RowView.{RowView}
use Rattle.sheet.specs.declared.row_views.Rows.{Rows}
use Rattle.sheet.specs.Layout.{UnitRow}
use Rattle.sheet.specs.Inner.Views.{unit_in}
use Rattle.sheet.specs.Inner.Rows.{rows_left, GivesRow}

so_far : (xs : List RowView) (s t : Rows) → Yields GivesRow s xs t
    → (rows_left t ≡ drop (length xs) (rows_left s)) × (t.sheet.bytes ≡ s.sheet.bytes) × (length xs ≤ length (rows_left s))
so_far [] s t y = (sym (ap rows_left y), ap (λ (r : Rows). r.sheet.bytes) (sym y), omega arith)
so_far (x ∷ xs) s t y =
    let later = so_far xs y.0 t y.2 in
    let given = y.1 in
    (later.0 ∙ sym (ap (drop (suc (length xs))) given.0), later.1 ∙ given.2, omega (arith, later.2, ap length given.0))

head_of : (us : List UnitRow) (k : ℕ) (u : UnitRow) (vs : List UnitRow) (d : UnitRow) → drop k us ≡ u ∷ vs → (k < length us) × (get_or us k d ≡ u)
head_of us k u vs d e = (omega (arith, ap length e, length-drop k us), ap (λ (i : ℕ). get_or us i d) (sym (add-zero k)) ∙ sym (get_or-drop k us 0 d) ∙ ap (λ (vs : List UnitRow). get_or vs 0 d) e)

-- xs of the units us, in the bytes b
module _ (us : List UnitRow) (b : Bor (List ℕ)) (xs : List RowView) (s t u : Rows) (left : rows_left s ≡ us) (same : s.sheet.bytes ≡ b) (y : Yields GivesRow s xs t) (r : Option RowView) where
  pub row_turn : (row : RowView) → r ≡ Some row → GivesRow t r u → (length xs < length us) × (row.sheet.bytes ≡ b) × ((d : UnitRow) → unit_in row ≡ get_or us (length xs) d)
  row_turn row is steps =
      let far = so_far xs s t y in
      let given = subst (λ (r : Option RowView). GivesRow t r u) is steps in
      let here = sym far.0 ∙ given.0 in
      let at = λ (d : UnitRow). head_of us (length xs) (unit_in row) (rows_left u) d (ap (drop (length xs)) (sym left) ∙ here) in
      ((at (unit_in row)).0, given.1 ∙ far.1 ∙ same, λ d. sym (at d).1)

  pub row_end : r ≡ None → GivesRow t r u → length xs ≡ length us
  row_end is steps =
      let far = so_far xs s t y in
      let given = subst (λ (r : Option RowView). GivesRow t r u) is steps in
      omega (arith, far.2, ap length left, ap length (sym far.0 ∙ given.0), length-drop (length xs) (rows_left s))

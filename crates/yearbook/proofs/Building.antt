-- Refusal 16: two lists of ids, item by item, and the book's building. Assumes nothing.
use mathlib.Core.Path.{◌≡◌, refl, sym, ap, ap₂, subst, ◌∙◌}
use mathlib.Core.Bool.{true, not, ◌&&◌}
use mathlib.Core.List.{List, [], ◌∷◌, map}
use Prim.Native.Nat.{ℕ}
use native.Mathlib.Omega.{arith}
use native.Mathlib.Decide.{ℕ_discrete}
use lib.Dec.{eqb}
use borrow.Author.Tests.{eq-eqb, ne_eqb}
use lib.ListN.{length, take, drop}
use Rattle.std.specs.List.{list_all, zip}
use Rattle.std.proofs.lemmas.Iterator.{YieldsList}
use Rattle.std.proofs.lemmas.Iterator.Consumers.{YieldsList-from_shown}
use Rattle.sheet.specs.declared.row_views.Rows.{Rows}
use Rattle.sheet.specs.Layout.{UnitRow, Sheet}
use Rattle.sheet.specs.Inner.Views.{unit_in}
use Rattle.sheet.specs.Inner.Rows.{rows_left, GivesRow}
use Rattle.sheet.specs.Check.{same_list}
use Rattle.yearbook.specs.LentBook.{ids_at, unit_count_in, other_building}

-- ---- two lists are the same
pub row_by_row : (xs : List ℕ) (us : List UnitRow) → length xs ≡ length us → list_all (λ (p : ℕ × UnitRow). eqb p.0 p.1.id) (zip xs us) ≡ same_list xs (map (λ u. u.id) us)
row_by_row [] [] e = refl
row_by_row [] (u ∷ us) e = absurd (omega arith)
row_by_row (x ∷ xs) [] e = absurd (omega arith)
row_by_row (x ∷ xs) (u ∷ us) e = ap (λ t. eqb x u.id && t) (row_by_row xs us (omega arith))

-- what a walk over rows gives
pub YieldsList-from_rows : {rows : Rows} (us : List UnitRow) → rows_left rows ≡ us → YieldsList GivesRow unit_in rows us
YieldsList-from_rows {rows} us e = subst (λ us. YieldsList GivesRow unit_in rows us) e (YieldsList-from_shown GivesRow unit_in rows_left (λ s t g. ap length g.0) (λ s row t g. g.0) rows)

pub eqb-sym : (x y : ℕ) → eqb x y ≡ eqb y x
eqb-sym x y = elim (ℕ_discrete x y) [
  | yes e ↦ eq-eqb x y e ∙ sym (eq-eqb y x (sym e))
  | no d ↦ ne_eqb x y d ∙ sym (ne_eqb y x (λ e. d (sym e)))
]

pub same-sym : (xs ys : List ℕ) → same_list xs ys ≡ same_list ys xs
same-sym [] [] = refl
same-sym [] (y ∷ ys) = refl
same-sym (x ∷ xs) [] = refl
same-sym (x ∷ xs) (y ∷ ys) = ap₂ ◌&&◌ (eqb-sym x y) (same-sym xs ys)

-- ---- 16, test by test
module _ (b : List ℕ) (s : Sheet) where
  pub other_count : (unit_count_in b ≡ s.unit_count → ⊥) → other_building b s ≡ true
  unfolding other_building
  other_count h = rw (ne_eqb (unit_count_in b) s.unit_count h)

  pub by-ids : unit_count_in b ≡ s.unit_count → other_building b s ≡ not (same_list (take s.unit_count (drop ids_at b)) (map (λ u. u.id) s.units))
  unfolding other_building
  by-ids count = rw (count, eq-eqb s.unit_count s.unit_count refl)

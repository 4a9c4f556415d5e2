-- The buildings' parts of the buffer one by one, and figures of their sheets; what 22 leaves. Assumes nothing.
use mathlib.Core.Path.{◌≡◌, refl, sym, ap, ◌∙◌}
use mathlib.Core.Bool.{Bool, true, false, ◌||◌}
use mathlib.Core.List.{List, [], ◌∷◌, map}
use Prim.Native.Nat.{ℕ, zero, suc, ◌+◌, ◌≤◌, ◌<◌}
use native.Mathlib.Omega.{arith}
use lib.Dec.{ltb}
use lib.ListN.{length, get_or, take, set, length-map}
use lib.Seq.{take_all, take-suc, take-suc-set}
use native.Mathlib.Numerals.{add-one}
use borrow.Author.Tests.{ltb-false}
use Rattle.sheet.specs.Tests.{any}
use Rattle.sheet.specs.Layout.{Sheet, sheet_of}
use Rattle.sheet.proofs.Passed.{none_of}
use Rattle.month.proofs.Nearness.{get_d_map_in}
use Rattle.group.specs.declared.buildings.Building.{Building}
use Rattle.group.specs.Answer.{part_of, parts_of, bad_group}
use Rattle.group.specs.Inner.Parts.{building_at}

module _ (buffer : List ℕ) (bs : List Building) where
  pub parts_length : length (parts_of buffer bs) ≡ length bs
  parts_length = length-map bs (part_of buffer)

  pub part_at : (i : ℕ) → i < length bs → get_or (parts_of buffer bs) i [] ≡ part_of buffer (building_at bs i)
  part_at i h = get_d_map_in (part_of buffer) bs i _ [] h

  -- ---- their sheets
  abbrev pub sheets : List Sheet
  sheets = map sheet_of (parts_of buffer bs)

  pub sheet-count : length sheets ≡ length bs
  sheet-count = length-map (parts_of buffer bs) sheet_of ∙ parts_length

  pub sheet-at : (i : ℕ) → i < length bs → get_or sheets i (sheet_of []) ≡ sheet_of (part_of buffer (building_at bs i))
  sheet-at i h = get_d_map_in sheet_of (parts_of buffer bs) i [] (sheet_of []) (omega (arith, parts_length)) ∙ ap sheet_of (part_at i h)

  -- ---- a figure of each building
  pub figure_count : (f : Sheet → ℕ) → length (map f sheets) ≡ length bs
  figure_count f = length-map sheets f ∙ sheet-count

  pub figure_at : (f : Sheet → ℕ) (i : ℕ) → i < length bs → get_or (map f sheets) i 0 ≡ f (sheet_of (part_of buffer (building_at bs i)))
  figure_at f i h = get_d_map_in f sheets i (sheet_of []) 0 (omega (arith, sheet-count)) ∙ ap f (sheet-at i h)

  -- one more of them written, and all
  pub one_written : (f : Sheet → ℕ) (out : List ℕ) (i v : ℕ) → i < length bs → i < length out → v ≡ f (sheet_of (part_of buffer (building_at bs i)))
      → take i out ≡ take i (map f sheets) → take (i + 1) (set out i v) ≡ take (i + 1) (map f sheets)
  one_written f out i v h l e p = rw (add-one, take-suc-set out i v l, take-suc (map f sheets) i 0 (omega (arith, figure_count f)), figure_at f i h, p, e)

  pub all_written : (f : Sheet → ℕ) (out : List ℕ) (i : ℕ) → length bs ≤ i → length out ≡ length bs → take i out ≡ take i (map f sheets) → out ≡ map f sheets
  all_written f out i e l p = sym (take_all i out (omega arith)) ∙ p ∙ take_all i (map f sheets) (omega (arith, figure_count f))

-- ---- where 22 doesn't hold
pub record Placed (buffer : List ℕ) (bs : List Building) (reading : ℕ) : Type 0 where
  pub some : 0 < length bs
  pub few : length bs ≤ 12
  pub reading_le : reading ≤ 4000000000
  pub inside : (i : ℕ) → i < length bs → (building_at bs i).offset + (building_at bs i).length ≤ length buffer

neither : (s t : Bool) → (s || t) ≡ false → (s ≡ false) × (t ≡ false)
neither false t e = (refl, e)
neither true t e = absurd (let z : ◌≡◌ {A = ℕ} 0 1 = cc in omega arith)

none_leaves : (size : ℕ) (bs : List Building) → any (map (λ b. ltb size (b.offset + b.length)) bs) ≡ false → (i : ℕ) → i < length bs → (building_at bs i).offset + (building_at bs i).length ≤ size
unfolding any
none_leaves size [] e i h = absurd (omega arith)
none_leaves size (b ∷ bs) e zero h = ltb-false size _ (neither (ltb size (b.offset + b.length)) _ e).0
none_leaves size (b ∷ bs) e (suc i) h = none_leaves size bs (neither (ltb size (b.offset + b.length)) _ e).1 i (omega arith)

pub placed : (buffer : List ℕ) (bs : List Building) (reading : ℕ) → bad_group buffer bs reading ≡ false → Placed buffer bs reading
unfolding bad_group
placed buffer bs reading e =
    let h = none_of _ e in
    record {
      some = omega (arith, ltb-false (length bs) 1 h.0);
      few = ltb-false 12 (length bs) h.1.0;
      reading_le = ltb-false 4000000000 reading h.1.1.0;
      inside = none_leaves (length buffer) bs h.1.1.1.0;
    }

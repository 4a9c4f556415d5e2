-- What holds of each of the sheet's refusals holds of the first; the place of a refusal is below 160: 0, a row, or a byte of the header. Assumes nothing.
use mathlib.Core.Path.{◌≡◌, refl}
use mathlib.Core.Bool.{Bool, true, false, not}
use mathlib.Core.List.{List, [], ◌∷◌, ◌++◌, map}
use mathlib.Core.Logic.{inl, inr}
use mathlib.Core.Option.{Option, none, some}
use Prim.Native.Nat.{ℕ, ◌+◌, ◌*◌, ◌≤◌, ◌<◌}
use native.Mathlib.Omega.{arith}
use borrow.Author.Tests.{ltb-true}
use lib.Dec.{ltb, eqb}
use Rattle.sheet.specs.Tests.{all}
use lib.ListN.{length}
use Rattle.sheet.specs.declared.refusal.Refusal.{Refusal}
use Rattle.std.specs.Prelude.{Ok}
use Rattle.sheet.specs.Refusals.{Rule, ◌⇒◌, first_refusal, place_of}
use Rattle.sheet.specs.Inner.Places.{IfRefused, PlaceBelow, UpTo}
use Rattle.sheet.specs.Layout.{UnitRow, Sheet, sheet_of}
use Rattle.sheet.specs.Check.{HeaderTest, RowTest, fixed, ◌allowing◌, header_tests, header_rule, row_tests, field_rules, row_rules, sheet_rules, same_list, sheet_magic}
use Rattle.sheet.proofs.Passed.{none-holds, and_true, not-outside}
use Rattle.sheet.proofs.Units.{units-count}

module _ (P : Refusal → Type 0) where
  -- one rule more in front
  pub rule_first : (t : Bool) (r : Refusal) (rules : List Rule) → P r → (t ≡ false → IfRefused P (first_refusal rules)) → IfRefused P (first_refusal ((t ⇒ r) ∷ rules))
  unfolding first_refusal
  rule_first true r rules h f = h
  rule_first false r rules h f = f refl

  -- a list of them, whatever their conditions, and one list behind another
  abbrev pub EachRefusal : List Rule → Type 0
  EachRefusal [] = Unit {0}
  EachRefusal ((t ⇒ r) ∷ rules) = P r × EachRefusal rules

  each_append : (xs ys : List Rule) → EachRefusal xs → EachRefusal ys → EachRefusal (xs ++ ys)
  each_append [] ys h k = k
  each_append ((t ⇒ r) ∷ xs) ys h k = (h.0, each_append xs ys h.1 k)

  pub each_first : (rules : List Rule) → EachRefusal rules → IfRefused P (first_refusal rules)
  unfolding first_refusal
  each_first [] h = tt
  each_first ((t ⇒ r) ∷ rules) h = rule_first t r rules h.0 (λ _. each_first rules h.1)

  pub both_first : (xs ys : List Rule) → IfRefused P (first_refusal xs) → (first_refusal xs ≡ Ok tt → IfRefused P (first_refusal ys)) → IfRefused P (first_refusal (xs ++ ys))
  unfolding first_refusal
  both_first [] ys h f = f refl
  both_first ((true ⇒ r) ∷ xs) ys h f = h
  both_first ((false ⇒ r) ∷ xs) ys h f = both_first xs ys h f

  module _ (own : (r : Refusal) → UpTo 7 r → place_of r < 160 → P r) where
    -- 4: a byte below 160
    each-header : (ts : List HeaderTest) → all (map (λ t. ltb t.place 160) ts) ≡ true → EachRefusal (map header_rule ts)
    unfolding all
    each-header [] e = tt
    each-header (t ∷ ts) e = let h = and_true (ltb t.place 160) _ e in (own _ (inl (omega arith)) (ltb-true _ _ h.0), each-header ts h.1)

    -- 6, 20 and 7: a row below 160, as far as the rows go
    each-field : (i : ℕ) (ts : List RowTest) → i < 160 → EachRefusal (field_rules i ts)
    unfolding field_rules
    each-field i [] h = tt
    each-field i (fixed t ∷ ts) h = (own _ (inl (omega arith)) h, each-field i ts h)
    each-field i ((t allowing range) ∷ ts) h = (own _ (inl (omega arith)) h, (own _ (inr refl) h, each-field i ts h))

    each_row : (s : Sheet) (i : ℕ) (before : Option ℕ) (us : List UnitRow) → i + length us ≤ 160 → EachRefusal (row_rules s i before us)
    unfolding row_rules
    each_row s i before [] h = tt
    each_row s i before (u ∷ us) h =
        each_append (field_rules i (row_tests s u)) _ (each-field i (row_tests s u) (omega arith)) (own _ (inl (omega arith)) (omega arith), each_row s (i + 1) (some u.id) us (omega arith))

    -- 1 to 7 with 20
    pub sheet-first : (width : ℕ) (bytes : List ℕ) → IfRefused P (first_refusal (sheet_rules width bytes))
    unfolding sheet_rules header_tests all
    sheet-first width bytes =
        let s = sheet_of bytes in
        let header = map header_rule (header_tests s) in
        rule_first (ltb (length bytes) 48) _ _ (own _ (inl (omega arith)) (omega arith))
        (λ _. rule_first (not (same_list s.magic sheet_magic)) _ _ (own _ (inl (omega arith)) (omega arith))
        (λ _. rule_first (not (eqb s.version 1)) _ _ (own _ (inl (omega arith)) (omega arith))
        (λ _. both_first header _ (each_first header (each-header (header_tests s) refl))
        (λ e. rule_first (not (eqb (length bytes) (48 + width * s.unit_count))) _ _ (own _ (inl (omega arith)) (omega arith))
        (λ _. each_first (row_rules s 0 none s.units) (each_row s 0 none s.units (omega (arith, units-count bytes, (not-outside s.unit_count _ (none-holds header e).1.1.0).1))))))))

-- ---- places
pub place_rule : (k : ℕ) (t : Bool) (r : Refusal) (rules : List Rule) → place_of r < k → (t ≡ false → PlaceBelow k (first_refusal rules)) → PlaceBelow k (first_refusal ((t ⇒ r) ∷ rules))
place_rule k = rule_first (λ r. place_of r < k)

pub both-place : (k : ℕ) (xs ys : List Rule) → PlaceBelow k (first_refusal xs) → PlaceBelow k (first_refusal ys) → PlaceBelow k (first_refusal (xs ++ ys))
both-place k xs ys h f = both_first (λ r. place_of r < k) xs ys h (λ _. f)

pub sheet-place : (width : ℕ) (bytes : List ℕ) → PlaceBelow 160 (first_refusal (sheet_rules width bytes))
sheet-place = sheet-first (λ r. place_of r < 160) (λ r n p. p)

use mathlib.Core.Path.{◌≡◌, refl, sym, ap, ◌∙◌}
use mathlib.Core.Logic.{◌⊎◌, inl, inr}
use mathlib.Core.Bool.{Bool, true, false, ◌||◌}
use Prim.Native.Nat.{ℕ, zero, suc, ◌+◌, ◌≤◌, ◌<◌}
use native.Mathlib.Omega.{arith}
use mathlib.Core.List.{List, map}
use borrow.Author.Tests.{lt-ltb, le-ltb, ne_eqb}
use lib.Dec.{ltb}
use lib.ListN.{length}
use Rattle.std.specs.Bool.{◌==◌}
use Rattle.std.proofs.Common.{rules, tests}
use Rattle.std.proofs.lemmas.Iterator.{YieldsList-from_slice}
use Rattle.std.proofs.lemmas.Iterator.Search.{any_from_yields_List}
use Rattle.sheet.specs.Tests.{any}
use Rattle.group.specs.declared.buildings.Building.{Building}
use Rattle.group.specs.Answer.{bad_group}
use Rattle.group.proofs.Lists.{any_of}
use Rattle.group.proofs.buildings.bad_group.Goals as goal

none_there : (n : ℕ) → (n == 0) ≡ ltb n 1
none_there zero = refl
none_there (suc n) = ne_eqb (suc n) 0 (λ z. omega arith) ∙ sym (le-ltb (suc n) 1 (omega arith))

in_turn : (a b c d : Bool) → (a || (b || (c || (d || false)))) ≡ (((a || b) || c) || d)
in_turn true b c d = refl
in_turn false true c d = refl
in_turn false false true d = refl
in_turn false false false true = refl
in_turn false false false false = refl

abbrev leaves : List ℕ → Building → Bool
leaves buffer b = ltb (length buffer) (b.offset + b.length)

module _ (buffer : List ℕ) (bs : List Building) (reading : ℕ) {empty : Bool} (is : empty ≡ (length bs == 0)) where
  bad-is : bad_group buffer bs reading ≡ (((empty || ltb 12 (length bs)) || ltb 4000000000 reading) || any (map (leaves buffer) bs))
  unfolding bad_group any
  bad-is = in_turn (ltb (length bs) 1) (ltb 12 (length bs)) (ltb 4000000000 reading) (any (map (leaves buffer) bs)) ∙ ap (λ (t : Bool). ((t || ltb 12 (length bs)) || ltb 4000000000 reading) || any (map (leaves buffer) bs)) (sym (is ∙ none_there (length bs)))

  -- one of the first three holds, or none of them does
  bad : (empty ≡ true) ⊎ ((empty ≡ false × 12 < length bs) ⊎ (empty ≡ false × length bs ≤ 12 × 4000000000 < reading)) → bad_group buffer bs reading ≡ true
  bad why = bad-is ∙ elim why [
    | inl e ↦ rw e refl
    | inr more ↦ elim more [
      | inl m ↦ rw (m.0, lt-ltb 12 (length bs) m.1) refl
      | inr m ↦ rw (m.0, le-ltb 12 (length bs) m.1, lt-ltb 4000000000 reading m.2) refl
    ]
  ]

  if_one_leaves : empty ≡ false × length bs ≤ 12 × reading ≤ 4000000000 → bad_group buffer bs reading ≡ any (map (leaves buffer) bs)
  if_one_leaves none = bad-is ∙ rw (none.0, le-ltb 12 (length bs) none.1, le-ltb 4000000000 reading none.2) refl

pub returns-then-reading-gt-MOST_READING : goal.returns-then-reading-gt-MOST_READING
returns-then-reading-gt-MOST_READING c =
    let a = c.args in
    let is = bad a.sheets.now a.buildings.now a.reading c.is_empty.ensures c.if-reading-gt-MOST_READING.either in
    rw is (search rules)

pub returns-else-reading-gt-MOST_READING : goal.returns-else-reading-gt-MOST_READING
returns-else-reading-gt-MOST_READING c =
    let a = c.args in
    any_from_yields_List (leaves a.sheets.now) _ _ _ c.any.ensures.ran (YieldsList-from_slice a.buildings.now cc) (λ x b q k. search (rules, tests))
    ∙ any_of (leaves a.sheets.now) a.buildings.now
    ∙ sym (if_one_leaves a.sheets.now a.buildings.now a.reading c.is_empty.ensures c.if-reading-gt-MOST_READING.false)

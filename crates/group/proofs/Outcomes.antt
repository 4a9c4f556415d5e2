-- The answer stage by stage, as the code comes to it, and the list afterwards. Assumes nothing.
use mathlib.Core.Path.{◌≡◌, refl, sym, ap, ◌∙◌}
use mathlib.Core.Bool.{true, false}
use mathlib.Core.List.{List, [], ◌∷◌, ◌++◌, map}
use Prim.Native.Nat.{ℕ, ◌*◌}
use borrow.Author.Tests.{eq-eqb, ne_eqb, eqb-true, not-false}
use lib.ListN.{length}
use Rattle.apportion.specs.Shares.{sum}
use Rattle.sheet.specs.declared.refusal.Refusal.{Refusal}
use Rattle.sheet.specs.declared.refusal.Refusal.TheVariants.{BufferLength, NegativeCommonHeat, BadGroup}
use Rattle.sheet.specs.Refusals.{Outcome, first_refusal, afterwards}
use Rattle.std.specs.Prelude.{Ok, Err}
use Rattle.sheet.specs.declared.rule_set.RuleSet.{RuleSet}
use Rattle.sheet.specs.Layout.{Sheet, sheet_of}
use Rattle.sheet.proofs.Passed.{none-holds}
use Rattle.sheet.proofs.Rules.{or_else, first_of_both}
use Rattle.group.specs.declared.buildings.Building.{Building}
use Rattle.group.specs.declared.answer.GroupRefusal.{GroupRefusal}
use Rattle.group.specs.Group.{Group, group_units, common_heat_below_zero, group_statement}
use Rattle.group.specs.Answer.{parts_of, group_of, GroupAnswer, refused_in, outcome_in, Stage, refusal_or, first_in, own_stages, unlike, group_stages, group_answer, group_after}
use Rattle.group.specs.Inner.Parts.{first_answer}
use Rattle.group.specs.Inner.Figures.{list_answer, last_answer}

-- ---- 22 again, 13, 21
module _ (ss : List Sheet) (numbers : ℕ) where
  pub months_differ : unlike ss ≡ true → Err BadGroup ≡ list_answer ss numbers
  unfolding first_refusal
  months_differ e = rw e

  module _ (alike : unlike ss ≡ false) where
    pub wrong_list : (numbers ≡ 8 * sum (map (λ s. s.unit_count) ss) → ⊥) → Err BufferLength ≡ list_answer ss numbers
    unfolding first_refusal
    wrong_list h = rw (alike, ne_eqb numbers (8 * sum (map (λ s. s.unit_count) ss)) h)

    pub right-list : numbers ≡ 8 * sum (map (λ s. s.unit_count) ss) → Ok tt ≡ list_answer ss numbers
    unfolding first_refusal
    right-list h = rw (alike, eq-eqb numbers (8 * sum (map (λ s. s.unit_count) ss)) h)

  pub list-fits : list_answer ss numbers ≡ Ok tt → numbers ≡ 8 * sum (map (λ s. s.unit_count) ss)
  list-fits e = eqb-true numbers (8 * sum (map (λ s. s.unit_count) ss)) (not-false _ (none-holds _ e).1.0)

module _ (rules : RuleSet) (g : Group) where
  pub goes_below : common_heat_below_zero rules g ≡ true → Err NegativeCommonHeat ≡ last_answer rules g
  unfolding first_refusal
  goes_below e = rw e

  pub stays-above : common_heat_below_zero rules g ≡ false → Ok tt ≡ last_answer rules g
  unfolding first_refusal
  stays-above e = rw e

-- ---- stages one after the other
abbrev or_then : GroupAnswer → GroupAnswer → GroupAnswer
or_then (Ok tt) next = next
or_then (Err e) next = Err e

first_in-both : (xs ys : List Stage) → first_in (xs ++ ys) ≡ or_then (first_in xs) (first_in ys)
unfolding first_in
first_in-both [] ys = refl
first_in-both (x ∷ xs) ys = go (first_refusal x.rules) (first_in-both xs ys)
  where
    go : (o : Outcome) → first_in (xs ++ ys) ≡ or_then (first_in xs) (first_in ys) → refusal_or x.building o (first_in (xs ++ ys)) ≡ or_then (refusal_or x.building o (first_in xs)) (first_in ys)
    go (Ok tt) later = later
    go (Err r) later = refl

-- 22; a building's own; 22 again and 13; 21
abbrev in_order : Outcome → GroupAnswer → Outcome → Outcome → GroupAnswer
in_order first own list last = refusal_or 0 first (or_then own (refusal_or 0 (or_else list last) (Ok tt)))

module _ (rules : RuleSet) (buffer : List ℕ) (bs : List Building) (reading : ℕ) (list : List ℕ) where
  abbrev g : Group
  g = record { buildings = map sheet_of (parts_of buffer bs); shared_reading = reading }

  abbrev own : GroupAnswer
  own = first_in (own_stages 0 (parts_of buffer bs))

  abbrev first : Outcome
  first = first_answer buffer bs reading

  abbrev lists : Outcome
  lists = list_answer g.buildings (length list)

  abbrev last : Outcome
  last = last_answer rules g

  abbrev pub Is : GroupAnswer → List ℕ → Type 0
  Is a after = (a ≡ group_answer rules buffer bs reading list) × (after ≡ group_after rules buffer bs reading list)

  stage_by_stage : group_answer rules buffer bs reading list ≡ in_order first own lists last
  unfolding group_answer group_stages first_in group_units group_of
  stage_by_stage =
      ap (refusal_or 0 first) (first_in-both (own_stages 0 (parts_of buffer bs)) _ ∙ ap (λ (o : Outcome). or_then own (refusal_or 0 o (Ok tt))) (first_of_both (_ ∷ _ ∷ []) (_ ∷ [])))

  -- the list afterwards follows from the answer
  refused : (a : GroupAnswer) (e : GroupRefusal) → a ≡ Err e → group_answer rules buffer bs reading list ≡ Err e → Is a list
  unfolding group_after
  refused a e is same = (is ∙ sym same, sym (ap (λ (b : GroupAnswer). afterwards (outcome_in b) list (group_statement rules (group_of (parts_of buffer bs) reading))) same))

  pub first-refused : (a : GroupAnswer) (r : Refusal) → a ≡ Err (refused_in 0 r) → first ≡ Err r → Is a list
  first-refused a r is e = refused a (refused_in 0 r) is (stage_by_stage ∙ ap (λ (o : Outcome). in_order o own lists last) e)

  module _ (good : first ≡ Ok tt) where
    pub own-refused : (a : GroupAnswer) (e : GroupRefusal) → a ≡ Err e → own ≡ Err e → Is a list
    own-refused a e is same = refused a e is (stage_by_stage ∙ ap (λ (o : Outcome). in_order o own lists last) good ∙ ap (λ (b : GroupAnswer). in_order (Ok tt) b lists last) same)

    module _ (passed : own ≡ Ok tt) where
      past-own : group_answer rules buffer bs reading list ≡ refusal_or 0 (or_else lists last) (Ok tt)
      past-own = stage_by_stage ∙ ap (λ (o : Outcome). in_order o own lists last) good ∙ ap (λ (b : GroupAnswer). in_order (Ok tt) b lists last) passed

      pub list-refused : (a : GroupAnswer) (r : Refusal) → a ≡ Err (refused_in 0 r) → lists ≡ Err r → Is a list
      list-refused a r is e = refused a (refused_in 0 r) is (past-own ∙ ap (λ (o : Outcome). refusal_or 0 (or_else o last) (Ok tt)) e)

      module _ (fits : lists ≡ Ok tt) where
        past-lists : group_answer rules buffer bs reading list ≡ refusal_or 0 last (Ok tt)
        past-lists = past-own ∙ ap (λ (o : Outcome). refusal_or 0 (or_else o last) (Ok tt)) fits

        pub last-refused : (a : GroupAnswer) (r : Refusal) → a ≡ Err (refused_in 0 r) → last ≡ Err r → Is a list
        last-refused a r is e = refused a (refused_in 0 r) is (past-lists ∙ ap (λ (o : Outcome). refusal_or 0 o (Ok tt)) e)

        pub settled : last ≡ Ok tt → Is (Ok tt) (group_statement rules g)
        unfolding group_after group_of
        settled e =
            let same = past-lists ∙ ap (λ (o : Outcome). refusal_or 0 o (Ok tt)) e in
            (sym same, sym (ap (λ (b : GroupAnswer). afterwards (outcome_in b) list (group_statement rules g)) same))

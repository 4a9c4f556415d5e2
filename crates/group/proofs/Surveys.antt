-- The buildings surveyed so far: none is refused, and their figures are known. Assumes nothing.
use mathlib.Core.Path.{◌≡◌, refl, sym, ap, ◌∙◌}
use mathlib.Core.List.{List, [], map}
use Prim.Native.Nat.{ℕ, ◌+◌, ◌≤◌, ◌<◌}
use native.Mathlib.Numerals.{add-one}
use native.Mathlib.Omega.{arith}
use lib.ListN.{length, get_or, take, drop, set, drop_of_length-le}
use Rattle.std.specs.Prelude.{Result, Ok, Err}
use Rattle.std.proofs.Common.{drop-cons}
use Rattle.sheet.specs.Refusals.{Outcome, first_refusal}
use Rattle.sheet.specs.declared.rule_set.RuleSet.{RuleSet}
use Rattle.sheet.specs.Layout.{sheet_of}
use Rattle.month.specs.Weights.{total_area}
use Rattle.month.specs.Month.{settle_rules}
use Rattle.settlement.specs.declared.building.Survey.{Survey}
use Rattle.settlement.specs.Inner.Building.{surveyed, survey_of}
use Rattle.group.specs.declared.answer.GroupRefusal.{GroupRefusal}
use Rattle.group.specs.declared.buildings.Building.{Building}
use Rattle.group.specs.Answer.{GroupAnswer, part_of, parts_of, first_in, own_stages, refusal_or}
use Rattle.group.specs.Inner.Parts.{building_at}
use Rattle.group.specs.Inner.Figures.{common_heat, in_building, survey_answer}
use Rattle.group.proofs.Parts.{parts_length, part_at, sheets, one_written, all_written}

module _ (rules : RuleSet) (buffer : List ℕ) (bs : List Building) where
  abbrev pub part : ℕ → List ℕ
  part i = part_of buffer (building_at bs i)

  -- the answer of the buildings from i on
  abbrev pub answer_from : ℕ → GroupAnswer
  answer_from i = first_in (own_stages i (drop i (parts_of buffer bs)))

  pub record Walked (areas commons : List ℕ) (i : ℕ) : Type 0 where
    answer : answer_from i ≡ answer_from 0
    areas_are : take i areas ≡ take i (map total_area (sheets buffer bs))
    commons_are : take i commons ≡ take i (map (common_heat rules) (sheets buffer bs))

  pub none-walked : (areas commons : List ℕ) → Walked areas commons 0
  none-walked areas commons = record { answer = refl; areas_are = refl; commons_are = refl }

  -- building i is surveyed
  module _ (i : ℕ) (h : i < length bs) where
    own-answer : answer_from i ≡ refusal_or i (first_refusal (settle_rules (part i))) (answer_from (i + 1))
    unfolding first_in own_stages
    own-answer =
        ap (λ (parts : List (List ℕ)). first_in (own_stages i parts)) (drop-cons (parts_of buffer bs) i [] (omega (arith, parts_length buffer bs)))
        ∙ ap (λ (k : ℕ). refusal_or i (first_refusal (settle_rules (get_or (parts_of buffer bs) i []))) (first_in (own_stages (i + 1) (drop k (parts_of buffer bs))))) (sym (add-one i))
        ∙ ap (λ (p : List ℕ). refusal_or i (first_refusal (settle_rules p)) (answer_from (i + 1))) (part_at buffer bs i h)

    refused_by : (o : Outcome) (e : GroupRefusal) → in_building i (surveyed rules (sheet_of (part i)) o) ≡ Err e → refusal_or i o (answer_from (i + 1)) ≡ Err e
    refused_by (Ok tt) e is = absurd (let z : ◌≡◌ {A = ℕ} 0 1 = cc in omega arith)
    refused_by (Err r) e is = ap (λ (q : GroupRefusal). Err q) (let same : ◌≡◌ {A = Result Survey GroupRefusal} (Err (record { refusal = r; building = i })) (Err e) = is in cc)

    pub one-refused : {areas commons : List ℕ} (e : GroupRefusal) → survey_answer rules i (part i) ≡ Err e → Walked areas commons i → answer_from 0 ≡ Err e
    unfolding survey_of
    one-refused e is w = sym w.answer ∙ own-answer ∙ refused_by _ e is

    record Passes (o : Outcome) (found : Survey) : Type 0 where
      outcome : o ≡ Ok tt
      area : found.area ≡ total_area (sheet_of (part i))
      common : found.common ≡ common_heat rules (sheet_of (part i))

    passes_by : (o : Outcome) (found : Survey) → in_building i (surveyed rules (sheet_of (part i)) o) ≡ Ok found → Passes o found
    passes_by (Ok tt) found is =
        let same : ◌≡◌ {A = Survey} (record { area = total_area (sheet_of (part i)); common = common_heat rules (sheet_of (part i)) }) found = cc in
        record { outcome = refl; area = sym (ap (λ (s : Survey). s.area) same); common = sym (ap (λ (s : Survey). s.common) same) }
    passes_by (Err r) found is = absurd (let z : ◌≡◌ {A = ℕ} 0 1 = cc in omega arith)

    pub one-walked : (areas commons : List ℕ) → length areas ≡ length bs → length commons ≡ length bs → (found : Survey) → survey_answer rules i (part i) ≡ Ok found
        → Walked areas commons i → Walked (set areas i found.area) (set commons i found.common) (i + 1)
    unfolding survey_of
    one-walked areas commons l m found is w =
        let passes = passes_by _ found is in
        record {
          answer = sym (own-answer ∙ ap (λ (o : Outcome). refusal_or i o (answer_from (i + 1))) passes.outcome) ∙ w.answer;
          areas_are = one_written buffer bs total_area areas i found.area h (omega arith) passes.area w.areas_are;
          commons_are = one_written buffer bs (common_heat rules) commons i found.common h (omega arith) passes.common w.commons_are;
        }

  pub record Surveyed (areas commons : List ℕ) : Type 0 where
    pub passed : answer_from 0 ≡ Ok tt
    pub areas_are : areas ≡ map total_area (sheets buffer bs)
    pub commons_are : commons ≡ map (common_heat rules) (sheets buffer bs)

  pub all-walked : (areas commons : List ℕ) (i : ℕ) → length bs ≤ i → length areas ≡ length bs → length commons ≡ length bs → Walked areas commons i → Surveyed areas commons
  unfolding first_in own_stages
  all-walked areas commons i e l m w = record {
    passed = sym w.answer ∙ ap (λ (parts : List (List ℕ)). first_in (own_stages i parts)) (drop_of_length-le (parts_of buffer bs) {i = i} (omega (arith, parts_length buffer bs)));
    areas_are = all_written buffer bs total_area areas i e l w.areas_are;
    commons_are = all_written buffer bs (common_heat rules) commons i e m w.commons_are;
  }

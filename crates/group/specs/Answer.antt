-- The answer of the group call, and the list afterwards (2026-04, "Errors").
use Rattle.std.specs.Prelude.{Bool, false, not, ◌||◌, List, [], ◌∷◌, ◌++◌, map, ℕ, ◌+◌, ◌*◌, ltb, eqb, length, take, drop, Result, Ok, Err}
use Rattle.sheet.specs.Tests.{any}
use Rattle.sheet.specs.declared.refusal.Refusal.{Refusal}
use Rattle.sheet.specs.declared.refusal.Refusal.TheVariants.{BufferLength, NegativeCommonHeat, BadGroup}
use Rattle.sheet.specs.Refusals.{Outcome, Rule, ◌⇒◌, first_refusal, place_of, afterwards}
use Rattle.sheet.specs.declared.rule_set.RuleSet.{RuleSet}
use Rattle.sheet.specs.Layout.{Sheet, sheet_of}
use Rattle.month.specs.Month.{settle_rules}
use Rattle.group.specs.declared.buildings.Building.{Building}
use Rattle.group.specs.declared.answer.GroupRefusal.{GroupRefusal}
use Rattle.group.specs.Group.{Group, group_units, common_heat_below_zero, group_statement}

-- ---- the buildings' sheets as parts of one buffer
-- the part of the buffer from the building's offset on, of its length
abbrev pub part_of : List ℕ → Building → List ℕ
part_of buffer b = take b.length (drop b.offset buffer)

abbrev pub parts_of : List ℕ → List Building → List (List ℕ)
parts_of buffer bs = map (part_of buffer) bs

unfoldable pub group_of : List (List ℕ) → ℕ → Group
group_of parts reading = record { buildings = map sheet_of parts; shared_reading = reading }

-- ---- 22, before everything else: the count isn't 1 to 12, the shared reading is over its limit, or an offset and length leave the buffer
unfoldable pub bad_group : List ℕ → List Building → ℕ → Bool
bad_group buffer bs reading = any (
    ltb (length bs) 1
    ∷ ltb 12 (length bs)
    ∷ ltb 4000000000 reading
    ∷ any (map (λ b. ltb (length buffer) (b.offset + b.length)) bs)
    ∷ []
    )

-- ---- rules in their order, each list with the building, counted from 0, whose place raises theirs; 0 for the group's own
pub record Stage : Type 0 where
  pub building : ℕ
  pub rules : List Rule

abbrev pub of_building : ℕ → List Rule → Stage
of_building i rules = record { building = i; rules = rules }

abbrev pub of_group : List Rule → Stage
of_group rules = of_building 0 rules

-- What a group call answers: `Ok` when it is accepted, else the refusal with the building whose own sheet is refused, else 0.
abbrev pub GroupAnswer : Type 0
GroupAnswer = Result (Unit {0}) GroupRefusal

abbrev pub refused_in : ℕ → Refusal → GroupRefusal
refused_in i r = record { refusal = r; building = i }

abbrev pub refusal_or : ℕ → Outcome → GroupAnswer → GroupAnswer
refusal_or i (Ok tt) next = next
refusal_or i (Err r) next = Err (refused_in i r)

-- an answer without the value that it may bring, and without the building
abbrev pub answer_of : {A : Type 0} → Result A GroupRefusal → GroupAnswer
answer_of (Ok x) = Ok tt
answer_of (Err e) = Err e

abbrev pub outcome_in : GroupAnswer → Outcome
outcome_in (Ok tt) = Ok tt
outcome_in (Err e) = Err e.refusal

-- the first rule that holds decides
unfoldable pub first_in : List Stage → GroupAnswer
first_in [] = Ok tt
first_in (stage ∷ stages) = refusal_or stage.building (first_refusal stage.rules) (first_in stages)

-- ---- each building's own refusal 1 to 12, in list order; i counts the buildings
unfoldable pub own_stages : ℕ → List (List ℕ) → List Stage
own_stages i [] = []
own_stages i (part ∷ parts) = of_building i (settle_rules part) ∷ own_stages (i + 1) parts

-- ---- 22 again: a month or price differs from the first building's
abbrev pub differs : List ℕ → Bool
differs [] = false
differs (x ∷ xs) = any (map (λ y. not (eqb y x)) xs)

unfoldable pub unlike : List Sheet → Bool
unlike ss = differs (map (λ s. s.month) ss) || differs (map (λ s. s.price) ss)

-- ---- all in their order; last 13 and 21
unfoldable pub group_stages : RuleSet → List ℕ → List Building → ℕ → List ℕ → List Stage
group_stages rules buffer bs reading list =
    let parts = parts_of buffer bs in
    let g = group_of parts reading in
    of_group ((bad_group buffer bs reading ⇒ BadGroup) ∷ [])
    ∷ own_stages 0 parts
    ++ of_group (
    (unlike g.buildings ⇒ BadGroup)
    ∷ (not (eqb (length list) (8 * group_units g)) ⇒ BufferLength)
    ∷ (common_heat_below_zero rules g ⇒ NegativeCommonHeat)
    ∷ []
    )
    ∷ []

unfoldable pub group_answer : RuleSet → List ℕ → List Building → ℕ → List ℕ → GroupAnswer
group_answer rules buffer bs reading list = first_in (group_stages rules buffer bs reading list)

-- a refusal's place is raised by 160 × the building's
abbrev pub place_in : GroupRefusal → ℕ
place_in e = place_of e.refusal + 160 * e.building

-- ---- the list afterwards: the statements; refused, it keeps its contents
unfoldable pub group_after : RuleSet → List ℕ → List Building → ℕ → List ℕ → List ℕ
group_after rules buffer bs reading list = afterwards (outcome_in (group_answer rules buffer bs reading list)) list (group_statement rules (group_of (parts_of buffer bs) reading))

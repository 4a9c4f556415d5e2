-- A figure of each building, in the order of the list.
use Rattle.std.specs.Prelude.{◌≡◌, true, false, not, ℕ, ◌+◌, ◌*◌, ◌≤◌, ◌<◌, eqb, ℤ, length, get_or, Result, Ok, Err}
use mathlib.Core.List.{List, [], ◌∷◌, map, zip_with}
use Rattle.apportion.specs.Shares.{sum}
use Rattle.sheet.specs.declared.refusal.Refusal.{Refusal}
use Rattle.sheet.specs.declared.refusal.Refusal.TheVariants.{BufferLength, NegativeCommonHeat, BadGroup}
use Rattle.sheet.specs.Refusals.{Outcome, ◌⇒◌, first_refusal}
use Rattle.sheet.specs.declared.rule_set.RuleSet.{RuleSet}
use Rattle.sheet.specs.Layout.{Sheet, sheet_of}
use Rattle.month.specs.Weights.{total_area}
use Rattle.month.specs.Steps.{whole_wh, heat_parts, energies_with}
use Rattle.month.specs.Month.{statement_with}
use Rattle.settlement.specs.declared.building.Survey.{Survey}
use Rattle.settlement.specs.Inner.Building.{survey_of}
use Rattle.group.specs.declared.answer.GroupRefusal.{GroupRefusal}
use Rattle.group.specs.Group.{Group, is_negative, common_heats, adjusted_readings, common_heat_below_zero, group_units}
use Rattle.group.specs.Answer.{refused_in, unlike}
use Rattle.group.specs.Inner.Accepted.{AcceptedGroup}

-- the common heat of step 2
abbrev pub common_heat : RuleSet → Sheet → ℕ
common_heat rules s = (heat_parts whole_wh rules s).common

-- what a building's survey says, building i's
abbrev pub in_building : ℕ → Result Survey Refusal → Result Survey GroupRefusal
in_building i (Ok survey) = Ok survey
in_building i (Err r) = Err (refused_in i r)

abbrev pub survey_answer : RuleSet → ℕ → List ℕ → Result Survey GroupRefusal
survey_answer rules i bytes = in_building i (survey_of rules bytes)

-- a figure can be adjusted by a share, figures by the shares beside them
pub record MovableAt (difference : ℤ) (share figure : ℕ) : Type 0 where
  pub taken : is_negative difference ≡ true → share ≤ figure
  pub added : is_negative difference ≡ false → figure + share ≤ 100000000000

pub record Movable (difference : ℤ) (shares figures : List ℕ) : Type 0 where
  pub as_many : length shares ≡ length figures
  pub each : (i : ℕ) → i < length figures → MovableAt difference (get_or shares i 0) (get_or figures i 0)

-- the statements of buildings with what step 5 and step 7 divide
abbrev pub statements_of : RuleSet → List Sheet → (commons bills : List ℕ) → List (List ℕ)
statements_of rules ss commons bills = zip_with (λ f bill. f bill) (zip_with (statement_with rules) ss commons) bills

-- what a group brings to each building
pub record Charges (rules : RuleSet) (ss : List Sheet) (commons bills out : List ℕ) : Type 0 where
  pub commons_many : length commons ≡ length ss
  pub bills_many : length bills ≡ length ss
  pub commons_fit : (i : ℕ) → get_or commons i 0 ≤ 4000000000
  pub bills_fit : (i : ℕ) → get_or bills i 0 ≤ 400000000
  pub divisible : (i : ℕ) → i < length ss → sum (energies_with whole_wh rules (get_or ss i (sheet_of [])) (get_or commons i 0)) ≡ 0 → get_or bills i 0 ≡ 0
  pub out-room : length out ≡ 8 * sum (map (λ s. s.unit_count) ss)

-- the adjusted readings and common heats of an accepted group, and room for its statements
pub record Adjusted (rules : RuleSet) (g : Group) (readings commons out : List ℕ) : Type 0 where
  pub accepted-group : AcceptedGroup rules g
  pub readings_are : readings ≡ adjusted_readings rules g
  pub commons_are : commons ≡ common_heats whole_wh rules g
  pub out-room : length out ≡ 8 * group_units g

-- a group past 13, surveyed
pub record Settleable (rules : RuleSet) (g : Group) (areas commons out : List ℕ) : Type 0 where
  pub areas_are : areas ≡ map total_area g.buildings
  pub commons_are : commons ≡ map (common_heat rules) g.buildings
  pub out-room : length out ≡ 8 * group_units g

-- 22 again, and 13
abbrev pub list_answer : List Sheet → ℕ → Outcome
list_answer ss numbers = first_refusal ((unlike ss ⇒ BadGroup) ∷ (not (eqb numbers (8 * sum (map (λ s. s.unit_count) ss))) ⇒ BufferLength) ∷ [])

-- last 21
abbrev pub last_answer : RuleSet → Group → Outcome
last_answer rules g = first_refusal ((common_heat_below_zero rules g ⇒ NegativeCommonHeat) ∷ [])

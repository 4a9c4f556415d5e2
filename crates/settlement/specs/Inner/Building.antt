-- A building of a group (2026-04): what the group asks of it, and what it brings.
use Rattle.std.specs.Prelude.{◌≡◌, List, ℕ, ◌*◌, ◌≤◌, length, Result, Ok, Err}
use Rattle.apportion.specs.Shares.{sum}
use Rattle.sheet.specs.declared.refusal.Refusal.{Refusal}
use Rattle.sheet.specs.Refusals.{Outcome, first_refusal}
use Rattle.sheet.specs.declared.rule_set.RuleSet.{RuleSet}
use Rattle.sheet.specs.Layout.{Sheet, sheet_of}
use Rattle.month.specs.Weights.{total_area}
use Rattle.month.specs.Steps.{whole_wh, heat_parts, energies_with}
use Rattle.month.specs.Month.{settle_rules}
use Rattle.settlement.specs.declared.building.Survey.{Survey}

-- its own refusal 1 to 12 or, where there is none, P and the common heat of step 2
abbrev pub surveyed : RuleSet → Sheet → Outcome → Result Survey Refusal
surveyed rules s (Ok tt) = Ok (record { area = total_area s; common = (heat_parts whole_wh rules s).common })
surveyed rules s (Err r) = Err r

unfoldable pub survey_of : RuleSet → List ℕ → Result Survey Refusal
survey_of rules bytes = surveyed rules (sheet_of bytes) (first_refusal (settle_rules bytes))

-- a sheet that is not refused, what steps 5 and 7 divide, and a list of 8n numbers
pub record GroupCharges (rules : RuleSet) (bytes : List ℕ) (common bill : ℕ) (out : List ℕ) : Type 0 where
  pub accepted : first_refusal (settle_rules bytes) ≡ Ok tt
  pub common-fits : common ≤ 4000000000
  pub bill-fits : bill ≤ 400000000
  pub divisible : sum (energies_with whole_wh rules (sheet_of bytes) common) ≡ 0 → bill ≡ 0
  pub room : length out ≡ 8 * (sheet_of bytes).unit_count

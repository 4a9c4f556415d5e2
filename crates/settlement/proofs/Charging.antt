-- What a sheet that passes is settled by, and what a survey of any bytes answers. Assumes nothing.
use mathlib.Core.Path.{◌≡◌, ap, subst⁻¹, ◌∙◌}
use mathlib.Core.List.{List}
use Prim.Native.Nat.{ℕ}
use native.Mathlib.Omega.{arith}
use Rattle.apportion.specs.Shares.{sum}
use Rattle.sheet.specs.declared.refusal.Refusal.{Refusal}
use Rattle.sheet.specs.Refusals.{first_refusal}
use Rattle.std.specs.Prelude.{Result, Ok, Err}
use Rattle.sheet.specs.declared.rule_set.RuleSet.{RuleSet}
use Rattle.sheet.specs.Layout.{Sheet, sheet_of}
use Rattle.sheet.specs.Check.{sheet_rules, checked}
use Rattle.sheet.proofs.Passed.{none-holds, holds-none, none_of-both}
use Rattle.sheet.proofs.Rules.{or_else}
use Rattle.month.specs.Weights.{total_area}
use Rattle.month.specs.Steps.{whole_wh, heat_parts, energies_with, energies}
use Rattle.month.specs.Month.{bill_cents, statement_with, statement_of, month_rules, settle_rules}
use Rattle.month.proofs.Accepted.{settle-in_order}
use Rattle.month.proofs.Bounds.{sum_bounds}
use Rattle.month.proofs.DivisionBounds.{common_heat_le}
use Rattle.month.proofs.Sums.{bill-divisible}
use Rattle.weights.specs.Inner.Months.{sheet_of_month}
use Rattle.weights.specs.declared.accepted.Month.{Month}
use Rattle.weights.proofs.Ready.{month_accepted}
use Rattle.settlement.specs.declared.divide.Parts.{Parts}
use Rattle.settlement.specs.declared.building.Survey.{Survey}
use Rattle.settlement.specs.Inner.Heat.{HeatParts, Charged}
use Rattle.settlement.specs.Inner.Building.{surveyed, survey_of}

-- ---- 1 to 7 are past, and 8 to 12
pub both-accepted : (bytes : List ℕ) → first_refusal (settle_rules bytes) ≡ Ok tt → (checked 32 bytes ≡ Ok tt) × (first_refusal (month_rules (sheet_of bytes)) ≡ Ok tt)
unfolding settle_rules checked
both-accepted bytes e =
    let both = none_of-both (sheet_rules 32 bytes) (month_rules (sheet_of bytes)) (none-holds _ e) in
    (holds-none (sheet_rules 32 bytes) both.0, holds-none (month_rules (sheet_of bytes)) both.1)

-- ---- a month by itself: the common heat of step 2, and its own bill
pub own-charges : (m : Month) {parts : Parts} {bill : ℕ} → HeatParts m.basis.rules (sheet_of_month m) parts → bill ≡ bill_cents (sheet_of_month m) → Charged m parts bill
unfolding energies
own-charges m {parts} {bill} h e =
    let s = sheet_of_month m in
    let a = month_accepted m in
    record {
      units = h.units;
      common-fits = omega (arith, h.common, common_heat_le m.basis.rules s a);
      bill-fits = omega (arith, (sum_bounds s a.checked-sheet).bill);
      divisible = subst⁻¹ (λ (c : ℕ). sum (energies_with whole_wh m.basis.rules s c) ≡ 0 → bill ≡ 0) h.common (λ z. e ∙ bill-divisible m.basis.rules s a z);
    }

pub own_statement : {rules by : RuleSet} {s : Sheet} {parts : Parts} {bill : ℕ} → by ≡ rules → HeatParts by s parts → bill ≡ bill_cents s → statement_with by s parts.common bill ≡ statement_of rules s
unfolding statement_of
own_statement {by = by} {s = s} e h b = rw (h.common, b) (ap (λ (r : RuleSet). statement_with r s (heat_parts whole_wh r s).common (bill_cents s)) e)

-- ---- a survey
module _ (rules : RuleSet) (bytes : List ℕ) where
  in_order : survey_of rules bytes ≡ surveyed rules (sheet_of bytes) (or_else (checked 32 bytes) (first_refusal (month_rules (sheet_of bytes))))
  unfolding survey_of
  in_order = ap (surveyed rules (sheet_of bytes)) (settle-in_order bytes)

  pub refused-sheet : {r : Refusal} → checked 32 bytes ≡ Err r → Err r ≡ survey_of rules bytes
  refused-sheet e = rw (in_order, e)

  module _ (passed : checked 32 bytes ≡ Ok tt) where
    pub refused-month : {r : Refusal} → first_refusal (month_rules (sheet_of bytes)) ≡ Err r → Err r ≡ survey_of rules bytes
    refused-month e = rw (in_order, passed, e)

    pub surveys : {area common : ℕ} → first_refusal (month_rules (sheet_of bytes)) ≡ Ok tt → area ≡ total_area (sheet_of bytes) → common ≡ (heat_parts whole_wh rules (sheet_of bytes)).common
        → ◌≡◌ {A = Result Survey Refusal} (Ok (record { area = area; common = common })) (survey_of rules bytes)
    surveys e f g = rw (in_order, passed, e, f, g)

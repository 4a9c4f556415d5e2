-- 22, each building's own, 22 again and 13, 21: the first that refuses answers.
use denote.Bor.{Bor}
use mathlib.Core.Path.{◌≡◌, sym, ap, ◌∙◌}
use mathlib.Core.List.{List, map}
use Prim.Native.Nat.{ℕ, ◌*◌}
use lib.ListN.{length}
use Rattle.std.specs.Prelude.{Ok}
use Rattle.sheet.specs.Refusals.{Outcome}
use Rattle.sheet.specs.RuleSets.{newest}
use Rattle.sheet.specs.Layout.{sheet_of}
use Rattle.month.specs.Weights.{total_area}
use Rattle.group.specs.declared.buildings.Building.{Building}
use Rattle.group.specs.declared.buildings.Group.{Group as GroupView}
use Rattle.group.specs.Group.{group_units, group_statement}
use Rattle.group.specs.Answer.{parts_of, first_in, own_stages}
use Rattle.group.specs.Inner.Parts.{parts_in, sheets_in, group_in}
use Rattle.group.specs.Inner.Figures.{common_heat, list_answer, last_answer}
use Rattle.sheet.proofs.Rules.{handed}
use Rattle.group.proofs.Outcomes.{list-fits, first-refused, own-refused, list-refused, last-refused, settled}
use Rattle.group.proofs.settling.settle_group.Goals.{In_ok-group-2}
use Rattle.group.proofs.settling.settle_group.Goals as goal

-- the group is the arguments'
module _ (g : GroupView) {sheets : Bor (List ℕ)} {bs : Bor (List Building)} {reading : ℕ} (e : (g.sheets ≡ sheets) × (g.buildings ≡ bs) × (g.reading ≡ reading)) where
  same_parts : parts_in g ≡ parts_of sheets.now bs.now
  same_parts = λ i. parts_of (e.0 i).now (e.1 i).now

  same_group : group_in g ≡ record { buildings = map sheet_of (parts_of sheets.now bs.now); shared_reading = reading }
  same_group = λ i. record { buildings = map sheet_of (same_parts i); shared_reading = e.2 i }

room : (g : GroupView) (numbers : ℕ) → list_answer (sheets_in g) numbers ≡ Ok tt → numbers ≡ 8 * group_units (group_in g)
unfolding group_units
room g numbers h = list-fits (sheets_in g) numbers h

own : (c : In_ok-group-2) → first_in (own_stages 0 (parts_of c.args.sheets.now c.args.buildings.now)) ≡ Ok tt
own c = ap (λ (parts : List (List ℕ)). first_in (own_stages 0 parts)) (sym (same_parts c.in_ok-group.group c.in_ok-group.ensures.group)) ∙ sym c.in_ok-group-2.ensures.answer

lists : (c : In_ok-group-2) {o : Outcome} → o ≡ list_answer (sheets_in c.in_ok-group-2.group.group) (length c.args.statement.now) → list_answer (map sheet_of (parts_of c.args.sheets.now c.args.buildings.now)) (length c.args.statement.now) ≡ o
lists c is =
    let same = ap parts_in c.in_ok-group-2.ensures.group ∙ same_parts c.in_ok-group.group c.in_ok-group.ensures.group in
    ap (λ (parts : List (List ℕ)). list_answer (map sheet_of parts) (length c.args.statement.now)) (sym same) ∙ sym is

group : (c : In_ok-group-2) → group_in c.in_ok-group-2.group.group ≡ record { buildings = map sheet_of (parts_of c.args.sheets.now c.args.buildings.now); shared_reading = c.args.reading }
group c = ap group_in c.in_ok-group-2.ensures.group ∙ same_group c.in_ok-group.group c.in_ok-group.ensures.group

pub returns-in_err-group : goal.returns-in_err-group
returns-in_err-group c =
    let a = c.args in
    let r = c.in_err-group.field-0.0 in
    let is = first-refused newest a.sheets.now a.buildings.now a.reading a.statement.now c.from_residual.result r (handed _ _ c.from_residual.ensures.1) (sym c.in_err-group.ensures.answer) in
    record { value = is.0; statement_after = is.1 }

pub returns-in_err-group-2 : goal.returns-in_err-group-2
returns-in_err-group-2 c =
    let a = c.args in
    let e = c.in_err-group-2.field-0.0 in
    let refused = ap (λ (parts : List (List ℕ)). first_in (own_stages 0 parts)) (sym (same_parts c.in_ok-group.group c.in_ok-group.ensures.group)) ∙ sym c.in_err-group-2.ensures.answer in
    let result = c.from_residual-in_err-group-2 in
    let is = own-refused newest a.sheets.now a.buildings.now a.reading a.statement.now (sym c.in_ok-group.ensures.answer) result.result e (handed _ _ result.ensures.1) refused in
    record { value = is.0; statement_after = is.1 }

pub returns-in_err-check_list : goal.returns-in_err-check_list
returns-in_err-check_list c =
    let a = c.args in
    let at = (goal.at.returns-in_err-check_list c).In_ok-group-2 in
    let result = c.from_residual-in_err-check_list in
    let is = list-refused newest a.sheets.now a.buildings.now a.reading a.statement.now (sym c.in_ok-group.ensures.answer) (own at) result.result _ (handed _ _ result.ensures.1) (lists at c.in_err-check_list.ensures) in
    record { value = is.0; statement_after = is.1 }

pub settle-requires : goal.settle-requires
settle-requires c =
    let g = c.in_ok-group-2.group.group in
    let found = c.in_ok-group-2.ensures in
    record {
      areas_are = found.areas ∙ ap (λ (v : GroupView). map total_area (sheets_in v)) (sym found.group);
      commons_are = found.commons ∙ ap (λ (v : GroupView). map (common_heat newest) (sheets_in v)) (sym found.group);
      out-room = room g _ (sym c.in_ok-check_list.ensures);
    }

pub returns-in_err-settle : goal.returns-in_err-settle
returns-in_err-settle c =
    let a = c.args in
    let at = (goal.at.returns-in_err-settle c).In_ok-group-2 in
    let last = ap (last_answer newest) (sym (group at)) ∙ sym c.in_err-settle.ensures.value in
    let result = c.from_residual-in_err-settle in
    let is = last-refused newest a.sheets.now a.buildings.now a.reading a.statement.now (sym c.in_ok-group.ensures.answer) (own at) (lists at c.in_ok-check_list.ensures) result.result _ (handed _ _ result.ensures.1) last in
    record { value = is.0; statement_after = c.in_err-settle.ensures.statement_after ∙ is.1 }

pub returns : goal.returns
returns c =
    let a = c.args in
    let at = (goal.at.returns c).In_ok-group-2 in
    let last = ap (last_answer newest) (sym (group at)) ∙ sym c.in_ok-settle.ensures.value in
    let is = settled newest a.sheets.now a.buildings.now a.reading a.statement.now (sym c.in_ok-group.ensures.answer) (own at) (lists at c.in_ok-check_list.ensures) last in
    record { value = is.0; statement_after = c.in_ok-settle.ensures.statement_after ∙ ap (group_statement newest) (group at) ∙ is.1 }

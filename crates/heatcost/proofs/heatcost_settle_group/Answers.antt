-- `heatcost_settle_group` meets its contract.
use mathlib.Core.Path.{sym, subst, ap, ◌∙◌}
use Rattle.sheet.specs.RuleSets.{newest}
use Rattle.group.proofs.Places.{Bounded, answer_bounds}
use Rattle.heatcost.specs.Answer.{group_number}
use Rattle.heatcost.proofs.heatcost_settle_group.Goals as goal

pub group_answer-requires : goal.group_answer-requires
group_answer-requires c =
    let a = c.args in
    subst Bounded (sym c.settle_group.ensures.value) (answer_bounds newest a.sheets.now a.buildings.now a.reading a.statement.now)

pub returns : goal.returns
returns c = record { value = c.group_answer.ensures ∙ ap group_number c.settle_group.ensures.value; statement_after = c.settle_group.ensures.statement_after }

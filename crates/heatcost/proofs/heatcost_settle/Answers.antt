-- `heatcost_settle` meets its contract.
use mathlib.Core.Path.{ap, subst, sym, ◌∙◌}
use Rattle.sheet.specs.Inner.Places.{PlaceBelow}
use Rattle.sheet.specs.RuleSets.{newest}
use Rattle.settlement.proofs.Places.{answer-place}
use Rattle.heatcost.specs.Answer.{answer_number}
use Rattle.heatcost.proofs.heatcost_settle.Goals as goal

pub answer-requires : goal.answer-requires
answer-requires c =
    let a = c.args in
    subst (PlaceBelow 160) (sym c.settle.ensures.value) (answer-place newest a.sheet.now a.statement.now)

pub returns : goal.returns
returns c =
    record { value = c.answer.ensures ∙ ap answer_number c.settle.ensures.value; statement_after = c.settle.ensures.statement_after }

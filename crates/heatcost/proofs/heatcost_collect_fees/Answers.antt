-- `heatcost_collect_fees` meets its contract.
use mathlib.Core.Path.{ap, subst, sym, ◌∙◌}
use Rattle.sheet.specs.Inner.Places.{PlaceBelow}
use Rattle.fund.proofs.Places.{collect_place}
use Rattle.heatcost.specs.Answer.{answer_number}
use Rattle.heatcost.proofs.heatcost_collect_fees.Goals as goal

pub answer-requires : goal.answer-requires
answer-requires c =
    let a = c.args in
    subst (PlaceBelow 160) (sym c.collect_fees.ensures.value) (collect_place a.fund.now a.sheet.now a.rate)

pub returns : goal.returns
returns c =
    record { value = c.answer.ensures ∙ ap answer_number c.collect_fees.ensures.value; fund_after = c.collect_fees.ensures.fund_after }

-- `heatcost_pay_out` meets its contract.
use mathlib.Core.Path.{ap, subst, sym, ◌∙◌}
use Rattle.sheet.specs.Inner.Places.{PlaceBelow}
use Rattle.fund.proofs.Places.{pay_place}
use Rattle.heatcost.specs.Answer.{answer_number}
use Rattle.heatcost.proofs.heatcost_pay_out.Goals as goal

pub answer-requires : goal.answer-requires
answer-requires c =
    let a = c.args in
    subst (PlaceBelow 160) (sym c.pay_out.ensures.value) (pay_place a.fund.now a.amount)

pub returns : goal.returns
returns c =
    record { value = c.answer.ensures ∙ ap answer_number c.pay_out.ensures.value; fund_after = c.pay_out.ensures.fund_after }

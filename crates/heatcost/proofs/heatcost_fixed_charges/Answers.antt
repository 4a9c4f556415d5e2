-- `heatcost_fixed_charges` meets its contract.
use mathlib.Core.Path.{ap, subst, sym, ◌∙◌}
use Rattle.sheet.specs.Inner.Places.{PlaceBelow}
use Rattle.charges.specs.Charges.{amounts}
use Rattle.charges.proofs.Places.{charge_place}
use Rattle.heatcost.specs.Answer.{answer_number}
use Rattle.heatcost.proofs.heatcost_fixed_charges.Goals as goal

pub answer-requires : goal.answer-requires
answer-requires c =
    let a = c.args in
    subst (PlaceBelow 160) (sym c.fixed_charges.ensures.value) (charge_place a.sheet.now a.model (amounts a.power a.buyer a.supplier) a.charges.now)

pub returns : goal.returns
returns c =
    record { value = c.answer.ensures ∙ ap answer_number c.fixed_charges.ensures.value; charges_after = c.fixed_charges.ensures.charges_after }

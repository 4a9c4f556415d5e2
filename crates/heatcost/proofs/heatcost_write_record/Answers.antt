-- `heatcost_write_record` meets its contract.
use mathlib.Core.Path.{ap, subst, sym, ◌∙◌}
use Rattle.sheet.specs.Inner.Places.{PlaceBelow}
use Rattle.archive.proofs.Places.{write_place}
use Rattle.heatcost.specs.Answer.{answer_number}
use Rattle.heatcost.proofs.heatcost_write_record.Goals as goal

pub answer-requires : goal.answer-requires
answer-requires c =
    let a = c.args in
    subst (PlaceBelow 160) (sym c.write.ensures.value) (write_place a.sheet.now a.out.now)

pub returns : goal.returns
returns c =
    record { value = c.answer.ensures ∙ ap answer_number c.write.ensures.value; out_after = c.write.ensures.out_after }

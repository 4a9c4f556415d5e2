-- `heatcost_read_record` meets its contract.
use mathlib.Core.Path.{ap, subst, sym, ◌∙◌}
use Rattle.sheet.specs.Inner.Places.{PlaceBelow}
use Rattle.archive.proofs.Places.{read-place}
use Rattle.heatcost.specs.Answer.{answer_number}
use Rattle.heatcost.proofs.heatcost_read_record.Goals as goal

pub answer-requires : goal.answer-requires
answer-requires c = subst (PlaceBelow 160) (sym c.check.ensures) (read-place c.args.bytes.now)

pub returns : goal.returns
returns c = c.answer.ensures ∙ ap answer_number c.check.ensures

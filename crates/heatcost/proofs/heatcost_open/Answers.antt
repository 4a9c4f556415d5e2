-- `heatcost_open` meets its contract.
use mathlib.Core.Path.{ap, subst, sym, ◌∙◌}
use Rattle.sheet.specs.Inner.Places.{PlaceBelow}
use Rattle.yearbook.specs.LentBook.{lent}
use Rattle.yearbook.proofs.Places.{open_place}
use Rattle.heatcost.specs.Answer.{answer_number}
use Rattle.heatcost.proofs.heatcost_open.Goals as goal

pub answer-requires : goal.answer-requires
answer-requires c =
    let a = c.args in
    subst (PlaceBelow 160) (sym c.«open».ensures.answer) (open_place (lent a.book.now a.sums.now) a.sheet.now)

pub returns : goal.returns
returns c =
    record { value = c.answer.ensures ∙ ap answer_number c.«open».ensures.answer; sums_after = c.«open».ensures.after }

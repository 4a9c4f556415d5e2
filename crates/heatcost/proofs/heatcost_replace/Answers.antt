-- `heatcost_replace` meets its contract.
use mathlib.Core.Path.{ap, subst, sym, ◌∙◌}
use Rattle.sheet.specs.Inner.Places.{PlaceBelow}
use Rattle.yearbook.specs.LentBook.{lent, replace_answer, lent_reply, lent_after}
use Rattle.yearbook.proofs.Places.{replace-place, same_outcome}
use Rattle.heatcost.specs.Answer.{answer_number}
use Rattle.heatcost.proofs.heatcost_replace.Goals as goal

pub answer-requires : goal.answer-requires
unfolding lent_reply
answer-requires c =
    let a = c.args in let l = lent a.book.now a.sums.now in
    let r = c.replace in
    subst (PlaceBelow 160) (sym (same_outcome r.result (replace_answer l a.sheet.now) r.ensures.reply)) (replace-place l a.sheet.now)

pub returns : goal.returns
unfolding lent_reply lent_after
returns c =
    let a = c.args in
    let r = c.replace in
    record { value = c.answer.ensures ∙ ap answer_number (same_outcome r.result (replace_answer (lent a.book.now a.sums.now) a.sheet.now) r.ensures.reply); sums_after = r.ensures.after }

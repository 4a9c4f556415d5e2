-- `year_into` meets its contract: a list of another length, refused, accepted.
use mathlib.Core.Path.{sym, ◌∙◌}
use Rattle.yearbook.specs.LentBook.{lent}
use Rattle.sheet.proofs.Rules.{handed}
use Rattle.heatcost.proofs.YearList.{refused-list, written-list, bad_book_lem, wrong_list}
use Rattle.heatcost.proofs.year_into.Goals as goal

pub returns-then-bad_book : goal.returns-then-bad_book
returns-then-bad_book c =
    let a = c.args in
    let w = bad_book_lem (lent a.book.now a.sums.now) a.place a.totals.now (sym c.bad_book.ensures ∙ c.if-bad_book.true) in
    record { value = w.0; totals_after = w.1 }

pub returns-then-totals-ne9 : goal.returns-then-totals-ne9
returns-then-totals-ne9 c =
    let a = c.args in
    let w = wrong_list (lent a.book.now a.sums.now) a.place a.totals.now (sym c.bad_book.ensures ∙ c.if-bad_book.false) c.if-totals-ne9.true in
    record { value = w.0; totals_after = w.1 }

pub returns-in_err-year : goal.returns-in_err-year
returns-in_err-year c =
    let a = c.args in
    let y = c.year in
    let w = refused-list (lent a.book.now a.sums.now) a.place a.totals.now c.if-totals-ne9.false y.result y.ensures.whole _ c.in_err-year.was in
    record { value = handed _ _ c.from_residual.ensures.1 ∙ w.0; totals_after = w.1 }

pub returns : goal.returns
returns c =
    let a = c.args in
    let y = c.year in
    let w = written-list (lent a.book.now a.sums.now) a.place a.totals.now c.if-totals-ne9.false y.result y.ensures.whole c.in_ok-year.year c.in_ok-year.was in
    record { value = w.0; totals_after = c.put_totals.ensures ∙ w.1 }

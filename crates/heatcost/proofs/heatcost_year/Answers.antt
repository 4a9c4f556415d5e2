-- `heatcost_year` meets its contract.
use mathlib.Core.Path.{subst, sym}
use Rattle.sheet.specs.Inner.Places.{PlaceBelow}
use Rattle.yearbook.specs.LentBook.{lent}
use Rattle.heatcost.proofs.YearList.{list_place}
use Rattle.heatcost.proofs.heatcost_year.Goals as goal

pub answer-requires : goal.answer-requires
answer-requires c =
    let a = c.args in
    subst (PlaceBelow 160) (sym c.year_into.ensures.value) (list_place (lent a.book.now a.sums.now) a.place a.totals.now)

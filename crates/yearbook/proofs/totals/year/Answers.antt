use native.Mathlib.Omega.{arith}
use Rattle.yearbook.proofs.Answers.{tells_15, tells_18, tells_19, tells_totals}
use Rattle.sheet.proofs.Rules.{handed}
use Rattle.yearbook.proofs.Handed.{same}
use Rattle.yearbook.proofs.totals.year.Goals as goal

pub returns-in_err-book : goal.returns-in_err-book
returns-in_err-book c =
    let no = c.in_err-book.ensures in
    rw (handed _ _ c.from_residual.ensures.1, no.1) (tells_15 _ _ no.0)

pub returns-then-place-unit_count : goal.returns-then-place-unit_count
returns-then-place-unit_count c =
    let book = same c.in_ok-book.ensures.1 in
    rw book (tells_18 _ _ (rw book at c.in_ok-book.ensures.0) (omega (arith, c.unit_count.ensures)))

pub returns-then-sums-ne-BLOCK_LENGTH : goal.returns-then-sums-ne-BLOCK_LENGTH
returns-then-sums-ne-BLOCK_LENGTH c =
    let book = same c.in_ok-book.ensures.1 in
    rw book (tells_19 _ _ (rw book at c.in_ok-book.ensures.0) (omega (arith, c.unit_count.ensures)) c.if-sums-ne-BLOCK_LENGTH.true)

pub returns : goal.returns
returns c =
    let book = same c.in_ok-book.ensures.1 in
    rw (c.standing_months.ensures, c.unit_sums.ensures, book)
    (tells_totals _ _ (rw book at c.in_ok-book.ensures.0) (omega (arith, c.unit_count.ensures)) c.if-sums-ne-BLOCK_LENGTH.false)

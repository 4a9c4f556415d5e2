use mathlib.Core.Path.{sym}
use Rattle.yearbook.proofs.Answers.{open_15, open_refused, open_19, open_accepted}
use Rattle.sheet.proofs.Rules.{handed}
use Rattle.yearbook.proofs.Handed.{same}
use Rattle.yearbook.proofs.opening.open.Goals as goal

pub returns-then-book-ne-BOOK_LENGTH : goal.returns-then-book-ne-BOOK_LENGTH
returns-then-book-ne-BOOK_LENGTH c = open_15 _ _ c.if-book-ne-BOOK_LENGTH.true

pub returns-in_err-sheet : goal.returns-in_err-sheet
returns-in_err-sheet c = rw (handed _ _ c.from_residual.ensures.1) (open_refused _ _ c.if-book-ne-BOOK_LENGTH.false _ (sym c.in_err-sheet.ensures.answer))

pub returns-then-sums-ne-BLOCK_LENGTH : goal.returns-then-sums-ne-BLOCK_LENGTH
returns-then-sums-ne-BLOCK_LENGTH c = open_19 _ _ c.if-book-ne-BOOK_LENGTH.false (sym c.in_ok-sheet.ensures.answer) c.if-sums-ne-BLOCK_LENGTH.true

pub returns : goal.returns
returns c =
    rw (c.start.ensures, c.clear.ensures, sym (same c.in_ok-sheet.ensures.sheet))
    (open_accepted _ _ c.if-book-ne-BOOK_LENGTH.false (sym c.in_ok-sheet.ensures.answer) c.if-sums-ne-BLOCK_LENGTH.false)

use mathlib.Core.Path.{sym, ◌∙◌}
use native.Mathlib.Omega.{arith}
use borrow.Author.Tests.{tests, lt-ltb}
use lib.Dec.{ltb}
use lib.ListN.{take, drop}
use Rattle.std.proofs.Common.{rules}
use Rattle.std.proofs.lemmas.Iterator.{YieldsList-from_slice}
use Rattle.std.proofs.lemmas.Iterator.Search.{any_from_yields_List}
use Rattle.yearbook.proofs.Sound.{bad-length, bad-units, by-marks}
use Rattle.yearbook.proofs.layout.bad_book.Goals as goal

pub returns-then-book-ne-BOOK_LENGTH : goal.returns-then-book-ne-BOOK_LENGTH
returns-then-book-ne-BOOK_LENGTH c = sym (bad-length c.args.book.now c.if-book-ne-BOOK_LENGTH.true)

pub returns-then-book-gt-MOST_UNITS : goal.returns-then-book-gt-MOST_UNITS
returns-then-book-gt-MOST_UNITS c = lt-ltb 160 _ c.if-book-gt-MOST_UNITS.true ∙ sym (bad-units c.args.book.now (omega arith) (omega arith))

pub returns-else-book-gt-MOST_UNITS : goal.returns-else-book-gt-MOST_UNITS
returns-else-book-gt-MOST_UNITS c =
    any_from_yields_List (ltb 1) _ _ c.any.result c.any.ensures.ran (YieldsList-from_slice (take 12 (drop 1 c.args.book.now)) cc) (λ x b q k. search (rules, tests))
    ∙ sym (by-marks c.args.book.now (omega arith) (omega arith))

use mathlib.Core.Path.{sym, ◌∙◌}
use Rattle.yearbook.proofs.Sound.{book-sound}
use Rattle.yearbook.proofs.book.Book.check.Goals as goal

pub invariant_of-result : goal.invariant_of-result
invariant_of-result c = record { sound = book-sound _ (sym c.bad_book.ensures ∙ c.if-bad_book.false) }

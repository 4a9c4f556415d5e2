use mathlib.Core.Path.{◌∙◌}
use native.Mathlib.Omega.{arith}
use borrow.Author.Tests.{tests}
use lib.ListN.{take, drop}
use Rattle.std.proofs.Common.{rules}
use Rattle.std.proofs.lemmas.Iterator.{YieldsList-from_slice, YieldsList-from_map}
use Rattle.std.proofs.lemmas.Iterator.Consumers.{sum_by_from_yields_List, fits_by_from_yields_list}
use Rattle.yearbook.specs.LentBook.{if_marked}
use Rattle.yearbook.proofs.Sound.{marks_counted, marks-le}
use Rattle.yearbook.proofs.book.Book.standing_months.Goals as goal

pub sum-requires-clause-fits : goal.sum-requires-clause-fits
sum-requires-clause-fits c =
    let b = c.args.self.numbers.now in
    fits_by_from_yields_list _ (take 12 (drop 1 b)) c.map.result _
    (YieldsList-from_map _ (λ mark. if_marked mark 1) (YieldsList-from_slice (take 12 (drop 1 b)) cc) c.map.ensures.closure (λ x r q k. search (rules, tests)))
    (omega (arith, marks-le b))

pub returns : goal.returns
returns c =
    let b = c.args.self.numbers.now in
    sum_by_from_yields_List _ (take 12 (drop 1 b)) _ _ c.sum.ensures.ran
    (YieldsList-from_map _ (λ mark. if_marked mark 1) (YieldsList-from_slice (take 12 (drop 1 b)) cc) c.map.ensures.closure (λ x r q k. search (rules, tests)))
    ∙ marks_counted b c.args.self.sound.size

use mathlib.Core.Path.{◌∙◌}
use native.Mathlib.Omega.{arith}
use borrow.Author.Tests.{tests}
use lib.Dec.{eqb}
use Rattle.std.proofs.Common.{rules}
use Rattle.std.proofs.lemmas.Iterator.{YieldsList-from_slice, YieldsList-from_zip}
use Rattle.std.proofs.lemmas.Iterator.Search.{all_from_yields_List}
use Rattle.sheet.specs.Layout.{sheet_of}
use Rattle.yearbook.proofs.Building.{row_by_row, YieldsList-from_rows}
use Rattle.yearbook.proofs.book.same_ids.Goals as goal

pub returns : goal.returns
returns c =
    let ids = c.args.ids.now in let us = (sheet_of c.args.sheet.bytes.now).units in
    all_from_yields_List (λ p. eqb p.0 p.1.id) c.all.new.self _ c.all.result c.all.ensures.ran (YieldsList-from_zip (YieldsList-from_slice ids cc) (YieldsList-from_rows us cc)) (λ x b q k. search (rules, tests))
    ∙ row_by_row ids us (omega (arith, c.requires, c.args.sheet.fits.units_length))

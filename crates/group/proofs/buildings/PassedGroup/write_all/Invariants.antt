-- Invariant: the statements of the first i buildings are written, `at` is behind them, and the other common heats and bills are left.
use mathlib.Core.Path.{◌≡◌}
use lib.ListN.{drop}
use Rattle.std.specs.Iterator.Adapters.{zip_first, zip_second, enumerate_source, enumerate_count}
use Rattle.std.specs.Slice.Iter.{iter_rest}
use Rattle.sheet.specs.RuleSets.{newest}
use Rattle.group.specs.Inner.Parts.{sheets_in}
use Rattle.group.proofs.Written.{Done}
use Rattle.group.proofs.buildings.PassedGroup.write_all.Given as goal

abbrev pub invariant-loop-i : goal.invariant-loop-i
invariant-loop-i l =
    let i = enumerate_count l.i-iterator in
    let pairs = enumerate_source l.i-iterator in
    record {
      done : Done newest (sheets_in l.self.group) l.commons l.bills l.statement l.at i;
      commons_left : iter_rest (zip_first pairs) ≡ drop i l.commons;
      bills_left : iter_rest (zip_second pairs) ≡ drop i l.bills;
    }

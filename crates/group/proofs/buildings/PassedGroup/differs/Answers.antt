use mathlib.Core.Path.{ap, ◌∙◌}
use mathlib.Core.Bool.{not}
use native.Mathlib.Omega.{arith}
use lib.Dec.{eqb}
use lib.ListN.{length, get_or}
use Rattle.std.proofs.Common.{rules, tests}
use Rattle.std.proofs.lemmas.Iterator.{YieldsList-from_slice}
use Rattle.std.proofs.lemmas.Iterator.Search.{any_from_yields_List}
use Rattle.sheet.specs.Inner.Fields.{header_field}
use Rattle.group.specs.Answer.{differs}
use Rattle.group.proofs.Parts.{figure_count, placed}
use Rattle.group.proofs.Lists.{differs_is}
use Rattle.group.proofs.buildings.PassedGroup.differs.Goals as goal

pub returns : goal.returns
returns c =
    let g = c.args.self.group in
    let xs = c.fields.new.out in
    any_from_yields_List (λ x. not (eqb x (get_or xs 0 0))) _ _ _ c.any.ensures.ran (YieldsList-from_slice xs cc) (λ x b q k. search (rules, tests))
    ∙ differs_is xs (omega (arith, ap length c.fields.ensures, figure_count g.sheets.now g.buildings.now (λ s. header_field s c.args.field), (placed _ _ _ g.good).some))
    ∙ ap differs c.fields.ensures

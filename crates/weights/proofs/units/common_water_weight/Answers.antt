use mathlib.Core.Path.{◌∙◌}
use native.Mathlib.Omega.{arith}
use Rattle.weights.proofs.Rows.{persons_counted}
use Rattle.weights.proofs.Ready.{row_fits}
use Rattle.weights.proofs.units.common_water_weight.Goals as goal

pub returns : goal.returns
returns c =
    let u = row_fits c.args.row in
    (c.from.ensures ∙ c.field.ensures ∙ persons_counted u, omega (arith, c.from.ensures, c.field.ensures, u.persons))

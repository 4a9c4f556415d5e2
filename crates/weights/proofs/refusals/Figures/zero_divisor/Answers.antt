use Rattle.sheet.specs.Tests.{any}
use Rattle.sheet.specs.Layout.{sheet_of}
use Rattle.weights.proofs.Tests.{divisor}
use Rattle.weights.proofs.refusals.Figures.zero_divisor.Goals as goal

pub returns : goal.returns
unfolding any
returns c =
    let b = c.args.self.now.basis in
    rw (c.zero_water_divisor.ensures, c.zero_heat_divisor.ensures, c.args.self.now.water_is) (divisor (sheet_of b.sheet.bytes.now) b.totals b.summed)

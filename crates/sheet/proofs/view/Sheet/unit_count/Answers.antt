use native.Mathlib.Omega.{arith}
use Rattle.sheet.proofs.view.Sheet.unit_count.Goals as goal

pub returns : goal.returns
returns c = (c.header.ensures, omega (arith, c.header.ensures, c.args.self.fits.header.unit_count))

use native.Mathlib.Omega.{arith}
use Rattle.sheet.proofs.view.Sheet.row.Goals as goal

pub overflow_mul-result : goal.overflow_mul-result
overflow_mul-result c = omega (arith, c.args.self.fits.header.unit_count)

pub overflow_add-result : goal.overflow_add-result
overflow_add-result c = omega (arith, c.args.self.fits.header.unit_count)

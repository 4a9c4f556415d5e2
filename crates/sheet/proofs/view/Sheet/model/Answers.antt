use native.Mathlib.Omega.{arith}
use Rattle.sheet.proofs.Views.{known}
use Rattle.sheet.proofs.view.Sheet.model.Goals as goal

pub unwrap-requires : goal.unwrap-requires
unwrap-requires c =
    let h = c.args.self.fits.header in
    known _ _ c.try_from.result c.try_from.ensures (λ e none. omega (arith, c.header.ensures, h.model_low, h.model, none.1))

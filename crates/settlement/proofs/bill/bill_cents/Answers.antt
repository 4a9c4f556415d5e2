use mathlib.Core.Path.{ap₂, ◌∙◌}
use native.Mathlib.Omega.{arith}
use Rattle.month.specs.Month.{cents_for, bill_cents}
use Rattle.settlement.proofs.bill.bill_cents.Goals as goal

pub cents_for-requires : goal.cents_for-requires
cents_for-requires c =
    let h = c.args.sheet.fits.header in
    (omega (arith, c.from.ensures, c.header.ensures, h.shared_meter), omega (arith, c.from-2.ensures, c.header-2.ensures, h.price))

pub returns : goal.returns
unfolding bill_cents
returns c = (c.cents_for.ensures.0 ∙ ap₂ cents_for (c.from.ensures ∙ c.header.ensures) (c.from-2.ensures ∙ c.header-2.ensures), c.cents_for.ensures.1)

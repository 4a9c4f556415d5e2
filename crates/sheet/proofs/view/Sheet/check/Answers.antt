use mathlib.Core.Path.{sym, ◌∙◌}
use Rattle.sheet.proofs.Fits.{fits}
use Rattle.sheet.proofs.view.Sheet.check.Goals as goal

pub invariant_of-result : goal.invariant_of-result
invariant_of-result c = record { fits = fits 32 _ (sym c.check.ensures ∙ c.in_ok-check.was) }

-- `give_ties` meets its contract: with none to spare the rest stays.
use Rattle.std.proofs.lemmas.Grind.{common_steps}
use native.Mathlib.Omega.{arith}
use Rattle.apportion.proofs.Giving.{no_ties}
use Rattle.apportion.proofs.selection.give_ties.Goals as goal

pub returns-then-left-eq0 : goal.returns-then-left-eq0
returns-then-left-eq0 c = grind (arith, common_steps, no_ties)

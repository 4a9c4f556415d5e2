-- `give_cut` meets its contract: two passes give what is given in one.
use Rattle.apportion.proofs.Giving.{two_passes}
use Rattle.apportion.proofs.selection.give_cut.Goals as goal

pub returns : goal.returns
returns c = let a = c.args in two_passes a.cut.theta a.cut.spare a.keys.now a.out.now c.give_above.ensures c.give_ties.ensures

-- `give` meets its contract: the threshold gives the leftover to the right items.
use mathlib.Core.Path.{ap, ◌∙◌}
use Rattle.apportion.specs.Shares.{added}
use Rattle.apportion.proofs.Giving.{leftover_given}
use Rattle.apportion.proofs.narrowing.Leftover.give.Goals as goal

pub returns : goal.returns
returns c =
    let t = c.threshold-cut in
    let s = c.args.self.now in
    c.give_cut.ensures ∙ ap (added c.args.out.now) (leftover_given s.left t.result.theta t.result.spare s.keys.now t.ensures)

-- Invariant: the figures passed are adjusted, the others as they were.
use Rattle.month.specs.Steps.{whole_wh}
use Rattle.group.specs.Group.{adjusted}
use Rattle.apportion.proofs.Replacing.{Replaced}
use Rattle.group.proofs.difference.adjust.Given as goal

abbrev pub invariant-loop-i : goal.invariant-loop-i
invariant-loop-i l = Replaced (adjusted whole_wh l.difference) l.fn.figures l.shares l.i l.figures

use mathlib.Core.Path.{sym}
use native.Mathlib.Omega.{arith}
use Rattle.year_sums.proofs.Updating.{not-past, past_nowhere}
use Rattle.year_sums.proofs.list.cannot_update.Goals as goal

pub returns-else-not-far_from_ends : goal.returns-else-not-far_from_ends
returns-else-not-far_from_ends c =
    let far = c.far_from_ends.ensures c.if-not-far_from_ends.false in
    rw c.if-not-far_from_ends.false (sym (past_nowhere c.requires (λ k h. let one = far k h in not-past _ _ _ one.above (omega (arith, one.room, c.type_inv.new k)))))

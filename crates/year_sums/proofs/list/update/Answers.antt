use mathlib.Core.Path.{refl, sym, ◌∙◌}
use native.Mathlib.Omega.{arith}
use Rattle.year_sums.proofs.Updating.{bad-length, update-refused, within, update-refused_in_front, update-made_in_front}
use Rattle.year_sums.proofs.list.update.Goals as goal

pub returns-then-sums-ne-SUMS : goal.returns-then-sums-ne-SUMS
returns-then-sums-ne-SUMS c = update-refused (bad-length _ _ c.args.new.now c.if-sums-ne-SUMS.true)

pub returns-then-cannot_update : goal.returns-then-cannot_update
returns-then-cannot_update c =
    let bad = rw c.old_or_zeros.ensures at c.cannot_update.ensures in
    update-refused_in_front (within c.requires c.reach-reached.ensures c.if-sums-ne-SUMS.false) _ (λ k. omega (arith, c.type_inv.sums k)) refl (sym bad ∙ c.if-cannot_update.true)

pub returns : goal.returns
returns c =
    let bad = rw c.old_or_zeros.ensures at c.cannot_update.ensures in
    let made = rw c.old_or_zeros.ensures at c.shift.ensures in
    update-made_in_front (within c.requires c.reach-reached.ensures c.if-sums-ne-SUMS.false) _ (λ k. omega (arith, c.type_inv.sums k)) made (sym bad ∙ c.if-cannot_update.false)

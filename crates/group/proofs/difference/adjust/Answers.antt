use mathlib.Core.Path.{sym, ap, ◌∙◌}
use mathlib.Core.List.{zip_with}
use native.Mathlib.Omega.{arith}
use lib.IntN.{ℤ}
use Rattle.month.specs.Steps.{whole_wh}
use Rattle.group.specs.Group.{adjusted}
use Rattle.group.proofs.Lists.{same_z}
use Rattle.apportion.proofs.Replacing.{none-replaced, one-replaced, all-replaced}
use Rattle.group.proofs.difference.adjust.Goals as goal

pub loop-i-init : goal.loop-i-init
loop-i-init c = none-replaced _ _ _

pub adjusted-requires : goal.adjusted-requires
adjusted-requires c =
    let l = c.loop-i in
    rw (same_z c.ranges.difference, l.invariant.rest l.i (omega arith)) (c.requires.each l.i (omega arith))

pub loop-i-preserved : goal.loop-i-preserved
loop-i-preserved c =
    let l = c.loop-i in
    one-replaced _ _ _ l.i _ l.figures (omega arith) c.adjusted.ensures l.invariant

pub returns : goal.returns
returns c =
    let l = c.loop-i in
    let a = c.args in
    all-replaced _ _ _ l.i l.figures (omega arith) (omega arith) (sym c.requires.as_many) l.invariant
    ∙ ap (λ (z : ℤ). zip_with (adjusted whole_wh z) a.figures.now a.shares.now) (same_z c.ranges.difference)

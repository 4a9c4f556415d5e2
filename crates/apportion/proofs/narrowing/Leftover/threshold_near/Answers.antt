-- `threshold_near` meets its contract: a threshold of the keys near it is one of all keys.
use Rattle.apportion.proofs.Near.{to_narrow, narrowed}
use Rattle.apportion.proofs.narrowing.Leftover.threshold_near.Goals as goal

pub invariant_of-few : goal.invariant_of-few
invariant_of-few c =
    let b = c.around-bracket.result in
    let h = c.catches.ensures c.if-not-catches.false in
    let p = to_narrow b.lo b.hi b.ordered c.collect-split.ensures h.0 h.1 h.2 in
    record { ordered = p.0; counted = (p.1, p.2); between = (p.3, p.4) }

pub returns : goal.returns
returns c =
    let b = c.around-bracket.result in
    let h = c.catches.ensures c.if-not-catches.false in
    let n = c.narrow-2 in
    narrowed b.lo b.hi b.ordered c.collect-split.ensures h.0 h.1 h.2 n.result.theta n.result.spare n.ensures.from_le_theta.0 n.ensures.from_le_theta.1 n.ensures.cuts

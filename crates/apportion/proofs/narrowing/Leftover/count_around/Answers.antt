-- `count_around` meets its contract: a key below m, and one that reaches it.
use native.Mathlib.Omega.{arith}
use lib.ListN.{get_or, take}
use Rattle.apportion.proofs.Counting.{counted_below, counted_reaching}
use Rattle.std.proofs.lemmas.List.{take_more}
use Rattle.apportion.proofs.narrowing.Leftover.count_around.Goals as goal
use Rattle.apportion.proofs.narrowing.Leftover.count_around.Goals.{then-k-m, else-k-m}

pub loop-k-preserved : goal.loop-k-preserved
loop-k-preserved c =
    let l = c.loop-k in
    let s = c.args.self.now in
    let ks = s.keys.now in
    let k = get_or ks l.k-index 0 in
    let so_far = take l.k-index ks in
    rw (take_more ks l.k-index 0 (omega arith))
    (elim c.if-k-m.branch [
      | then-k-m w ↦ rw (w.c-is, w.max.ensures) (counted_below c.args.m k s.lo s.hi l.c.count l.c.below l.c.above so_far l.invariant w.if-k-m.true)
      | else-k-m w ↦ rw (w.c-is, w.min.ensures) (counted_reaching c.args.m k s.lo s.hi l.c.count l.c.below l.c.above so_far l.invariant w.if-k-m.false)
    ])

-- `collect` meets its contract: the keys so far that lie in the bracket.
use native.Mathlib.Omega.{arith}
use lib.ListN.{get_or, length-set}
use lib.Seq.{length-take-le}
use Rattle.apportion.proofs.Counting.{from_bool_le}
use Rattle.apportion.proofs.Near.{collected_le, collected_with}
use Rattle.std.proofs.lemmas.List.{take_more}
use Rattle.apportion.proofs.selection.Bracket.collect.Goals as goal

pub overflow_add-within : goal.overflow_add-within
overflow_add-within c =
    let l = c.loop-k in
    let s = c.args.self in
    omega (arith, collected_le s.lo s.hi s.ordered l.invariant.1, length-take-le l.k-index c.args.keys.now (omega arith), from_bool_le)

pub overflow_add-above : goal.overflow_add-above
overflow_add-above c =
    let l = c.loop-k in
    let s = c.args.self in
    omega (arith, collected_le s.lo s.hi s.ordered l.invariant.1, length-take-le l.k-index c.args.keys.now (omega arith), from_bool_le)

pub loop-k-preserved : goal.loop-k-preserved
loop-k-preserved c =
    let l = c.loop-k in
    let s = c.args.self in
    let ks = c.args.keys.now in (
      simp length-set l.invariant.0,
      rw (take_more ks l.k-index 0 (omega arith))
          (collected_with s.lo s.hi s.ordered l.invariant.0 l.invariant.1 (get_or ks l.k-index 0) c.from.ensures c.from-past.ensures),
    )

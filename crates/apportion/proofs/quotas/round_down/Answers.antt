-- `round_down` meets its contract: what is written, summed, compared and counted of one weight more.
use mathlib.Core.Path.{ap}
use mathlib.Core.List.{List, map}
use Prim.Native.Nat.{ℕ, ◌+◌}
use native.Mathlib.Omega.{arith}
use lib.Dec.{ltb}
use lib.Seq.{length-take-le}
use lib.ListN.{get_or, take, length-map, length-set}
use Rattle.std.proofs.lemmas.List.{take_more, take_more_set}
use Rattle.apportion.specs.Shares.{sum, quota, remainder}
use Rattle.apportion.proofs.Counting.{count_le, from_bool_le}
use Rattle.apportion.proofs.Leftover.{quotas_le, sum-take-le, sum-quotas, rounded_more}
use Rattle.apportion.proofs.quotas.round_down.Goals as goal

pub overflow_add-down : goal.overflow_add-down
overflow_add-down c =
    let a = c.args in
    let l = c.loop-i in
    let ws = a.ws.now in
    omega (
      arith,
      c.divide-part.ensures.0,
      l.invariant.2.is_sum,
      quotas_le a.total a.divisor.whole a.divisor.positive (take (l.i + 1) ws) (omega (arith, sum-take-le (l.i + 1) ws)),
      ap (λ (xs : List ℕ). sum (map (quota a.total a.divisor.whole) xs)) (take_more ws l.i 0 (omega arith)),
      sum-quotas a.total a.divisor.whole (take l.i ws) (get_or ws l.i 0),
    )

pub overflow_add-down-in-loop-i : goal.overflow_add-down-in-loop-i
overflow_add-down-in-loop-i c =
    let a = c.args in
    let l = c.loop-i in
    let rs = map (remainder a.total a.divisor.whole) (take l.i a.ws.now) in
    omega (
      arith,
      l.invariant.2.is_positive,
      c.from.ensures,
      from_bool_le (ltb 0 c.divide-part.result.remainder),
      count_le 1 rs,
      length-map (take l.i a.ws.now) (remainder a.total a.divisor.whole),
      length-take-le l.i a.ws.now (omega arith),
    )

pub loop-i-preserved : goal.loop-i-preserved
loop-i-preserved c =
    let l = c.loop-i in
    let ws = c.args.ws.now in
    let o = c.divide-part in (
      simp length-set l.invariant.0,
      simp length-set l.invariant.1,
      rw (take_more ws l.i 0 (omega arith), take_more_set l.rests l.i o.result.remainder (omega arith), take_more_set l.out l.i o.result.quotient (omega arith))
          (rounded_more (get_or ws l.i 0) o.result.quotient o.result.remainder c.max.result c.from.result l.invariant.2 o.ensures.0 o.ensures.1 c.max.ensures c.from.ensures),
    )

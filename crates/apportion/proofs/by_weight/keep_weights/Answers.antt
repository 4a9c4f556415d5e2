-- `keep_weights` meets its contract: one key more is replaced by its weight.
use mathlib.Core.Path.{◌≡◌, ap, ◌∙◌}
use native.Mathlib.Omega.{arith}
use lib.Dec.{ltb}
use lib.ListN.{take, length-set}
use Rattle.std.proofs.lemmas.List.{take_more_set, take_all}
use Rattle.apportion.specs.Shares.{at_least}
use Rattle.apportion.specs.Inner.Selection.{largest, tied}
use Rattle.apportion.proofs.Counting.{bit-from_bool, from_bool_le, so_far_le, count_snoc}
use Rattle.apportion.proofs.Leftover.{largest-append}
use Rattle.apportion.proofs.Replacing.{none-replaced, one-replaced, all-replaced}
use Rattle.apportion.proofs.by_weight.keep_weights.Goals as goal

pub loop-i-init : goal.loop-i-init
loop-i-init c = (c.requires, none-replaced _ _ _, omega arith, omega arith)

pub overflow_add-kept : goal.overflow_add-kept
overflow_add-kept c =
    let l = c.loop-i in
    omega (arith, l.invariant.3, so_far_le 1 l.i l.keys, c.from.ensures, from_bool_le (ltb 0 c.weight_at-at.result))

pub loop-i-preserved : goal.loop-i-preserved
loop-i-preserved c =
    let l = c.loop-i in
    let at = c.weight_at-at.result in
    let so_far = take l.i l.keys in
    let more = take_more_set l.keys l.i at (omega arith) in (
      simp length-set l.invariant.0,
      one-replaced _ _ _ l.i at l.keys (omega arith) c.weight_at-at.ensures l.invariant.1,
      omega (arith, c.max.ensures, l.invariant.2, ap largest more, largest-append so_far at),
      omega (arith, c.from.ensures, bit-from_bool (ltb 0 at), l.invariant.3, ap (at_least 1) more, count_snoc 1 so_far at),
    )

pub returns : goal.returns
returns c =
    let l = c.loop-i in
    let whole : take l.i l.keys ≡ l.keys = take_all l.i l.keys (omega arith) in
    let is : l.keys ≡ tied c.args.theta c.args.keys.now c.args.ws.now = all-replaced _ _ _ l.i l.keys (omega arith) (omega arith) c.requires l.invariant.1 in
    record {
      is-kept = is;
      is-largest = l.invariant.2 ∙ ap largest (whole ∙ is);
      is_positive = l.invariant.3 ∙ ap (at_least 1) (whole ∙ is);
    }

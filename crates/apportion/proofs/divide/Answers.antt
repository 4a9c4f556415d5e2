-- `divide` meets its contract: the quotas, and the leftover by the rule for ties.
use mathlib.Core.Path.{◌≡◌, sym, ap, ap₂, subst, ◌∙◌}
use mathlib.Core.List.{List, []}
use Prim.Native.Nat.{ℕ, ◌<◌, ◌^◌}
use native.Mathlib.Omega.{arith}
use lib.ListN.{length}
use Rattle.std.proofs.Common.{rules}
use Rattle.std.specs.List as std
use Rattle.apportion.specs.declared.tie_rule.TieRule.{TieRule}
use Rattle.apportion.specs.Shares.{sum, extras, added, shares}
use Rattle.apportion.specs.Inner.Selection.{RoundedDown}
use Rattle.apportion.proofs.Plan.{down_le, some-left, rests_length, out_length, out_le, none_for_none, by_remainder, by_pair, without_leftover}
use Rattle.apportion.proofs.Sums.{sum_is}
use Rattle.apportion.proofs.divide.Goals as goal
use Rattle.apportion.proofs.divide.Goals.{After-sum, After-round_down-down}

-- the sum is std's
pub sum-requires-clause-fits : goal.sum-requires-clause-fits
sum-requires-clause-fits c =
    let ws = c.args.ws.now in
    let h : std.sum ws < 2 ^ 62 = omega (arith, c.requires.total_bound.2, sum_is ws) in search rules

whole : (c : After-sum) → c.sum.result ≡ sum c.args.ws.now
whole c = let h : c.sum.result ≡ std.sum c.args.ws.now = search rules in h ∙ sum_is c.args.ws.now

pub new-divisor-requires : goal.new-divisor-requires
new-divisor-requires c = omega (arith, whole (goal.at.new-divisor-requires c).After-sum)

pub round_down-down-requires-clause-total_bound : goal.round_down-down-requires-clause-total_bound
round_down-down-requires-clause-total_bound c = omega (arith, whole (goal.at.round_down-down-requires-clause-total_bound c).After-sum)

-- what is known once the quotas are written
rounded : (c : After-round_down-down) → let d = c.round_down-down in
    RoundedDown c.args.total (sum c.args.ws.now) c.args.ws.now d.result.sum d.result.largest d.result.positive d.new.rests d.new.out
rounded c =
    let d = c.round_down-down in
    let is : c.sum.result ≡ std.sum c.args.ws.now = search rules in
    subst (λ (w : ℕ). RoundedDown c.args.total w c.args.ws.now d.result.sum d.result.largest d.result.positive d.new.rests d.new.out)
    (c.new-divisor.ensures ∙ is ∙ sum_is c.args.ws.now) d.ensures

pub overflow_sub-left : goal.overflow_sub-left
overflow_sub-left c = down_le c.args.total c.args.ws.now (omega arith) (rounded (goal.at.overflow_sub-left c).After-round_down-down)

pub returns-then-left-eq0 : goal.returns-then-left-eq0
returns-then-left-eq0 c = without_leftover c.args.total c.args.ws.now (omega arith) (rounded (goal.at.returns-then-left-eq0 c).After-round_down-down) c.args.ties (omega arith)

pub new-requires : goal.new-requires
new-requires c = some-left c.args.total c.args.ws.now (omega arith) (rounded (goal.at.new-requires c).After-round_down-down) (omega arith) (omega arith)

pub give-requires : goal.give-requires
give-requires c =
    let t = c.args.total in
    let ws = c.args.ws.now in
    let d = rounded (goal.at.give-requires c).After-round_down-down in
    (out_length t ws (omega arith) d ∙ sym (rests_length t ws (omega arith) d) ∙ ap length (sym c.new.ensures.0), λ j. omega (arith, out_le t ws (omega arith) d j, down_le t ws (omega arith) d))

pub give_by_weight-requires-clause-left_nonzero : goal.give_by_weight-requires-clause-left_nonzero
give_by_weight-requires-clause-left_nonzero c =
    some-left c.args.total c.args.ws.now (omega arith) (rounded (goal.at.give_by_weight-requires-clause-left_nonzero c).After-round_down-down) (omega arith) (omega arith)

pub give_by_weight-requires-clause-keys_len : goal.give_by_weight-requires-clause-keys_len
give_by_weight-requires-clause-keys_len c =
    let t = c.args.total in
    let ws = c.args.ws.now in
    let d = rounded (goal.at.give_by_weight-requires-clause-keys_len c).After-round_down-down in
    (rests_length t ws (omega arith) d, none_for_none t ws (omega arith) d, omega arith, omega arith)

pub give_by_weight-requires-clause-out_len : goal.give_by_weight-requires-clause-out_len
give_by_weight-requires-clause-out_len c =
    let t = c.args.total in
    let ws = c.args.ws.now in
    let d = rounded (goal.at.give_by_weight-requires-clause-out_len c).After-round_down-down in
    (out_length t ws (omega arith) d, λ j. omega (arith, out_le t ws (omega arith) d j, down_le t ws (omega arith) d))

pub returns-in-EarlierFirst : goal.returns-in-EarlierFirst
returns-in-EarlierFirst c =
    let t = c.args.total in
    let ws = c.args.ws.now in
    by_remainder t ws (omega arith) (rounded (goal.at.returns-in-EarlierFirst c).After-round_down-down)
    (c.give.ensures ∙ ap₂ (λ (l : ℕ) (ks : List ℕ). added c.round_down-down.new.out (extras l [] ks)) c.new.ensures.1 c.new.ensures.0)
    ∙ ap (λ (r : TieRule). shares r t ws) (sym c.in-EarlierFirst.is)

pub returns-in-LargerFirst : goal.returns-in-LargerFirst
returns-in-LargerFirst c =
    let t = c.args.total in
    let ws = c.args.ws.now in
    by_pair t ws (omega arith) (rounded (goal.at.returns-in-LargerFirst c).After-round_down-down) c.give_by_weight.ensures
    ∙ ap (λ (r : TieRule). shares r t ws) (sym c.in-LargerFirst.is)

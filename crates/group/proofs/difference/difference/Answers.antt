use mathlib.Core.Path.{◌≡◌, ◌∙◌}
use native.Mathlib.Omega.{arith}
use Prim.Native.Nat.{◌≤◌}
use Rattle.std.specs.List as std
use Rattle.std.proofs.lemmas.Int.{ints}
use Rattle.std.proofs.Common.{rules}
use Rattle.apportion.specs.Shares.{sum}
use Rattle.apportion.proofs.Sums.{sum_is}
use Rattle.group.proofs.difference.difference.Goals.{After-sum-total}
use Rattle.group.proofs.difference.difference.Goals as goal

pub sum-total-requires-clause-fits : goal.sum-total-requires-clause-fits
sum-total-requires-clause-fits c = let h : std.sum c.args.meters.now ≤ 48000000000 = omega (arith, sum_is c.args.meters.now) in search rules

total_is : (c : After-sum-total) → c.sum-total.result ≡ sum c.args.meters.now
total_is c = let h : c.sum-total.result ≡ std.sum c.args.meters.now = search rules in h ∙ sum_is c.args.meters.now

pub overflow_cast-result-2 : goal.overflow_cast-result-2
overflow_cast-result-2 c = omega (arith, ints, total_is (goal.at.overflow_cast-result-2 c).After-sum-total)

pub overflow_sub-result : goal.overflow_sub-result
overflow_sub-result c = omega (arith, ints, total_is (goal.at.overflow_sub-result c).After-sum-total)

pub returns : goal.returns
returns c = omega (arith, ints, total_is (goal.at.returns c).After-sum-total)

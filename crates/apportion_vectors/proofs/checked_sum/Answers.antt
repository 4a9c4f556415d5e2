-- The sum is std's.
use Rattle.std.proofs.Common.{◌≡◌, IfSome, rules}
use Rattle.std.specs.List as std
use Rattle.apportion.proofs.Sums.{sum_is}
use Rattle.apportion_vectors.proofs.checked_sum.Goals as goal

pub returns : goal.returns
returns c =
    let h : IfSome c.try_fold.result (λ s. s ≡ std.sum c.args.ws.now) = search rules in
    simp (← sum_is c.args.ws.now) h

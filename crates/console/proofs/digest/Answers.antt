use Rattle.std.proofs.Common.{rules, ◌<◌, arith}
use Rattle.std.proofs.lemmas.Fn.{serves_by}
use Rattle.console.proofs.digest.Goals as goal

pub fold-requires-clause-callable : goal.fold-requires-clause-callable
fold-requires-clause-callable g c =
    serves_by _ (λ xs q. q.1 < 1000000007) (λ xs q x v j k. search rules) _ _ _ _ (omega arith) (λ xs t q x u y k j. search rules)

use Rattle.std.proofs.Common.{length}
use Rattle.apportion_vectors.proofs.divide_all.Given as goal

abbrev pub decreases-loop-rest : goal.decreases-loop-rest
decreases-loop-rest g l = length l.rest

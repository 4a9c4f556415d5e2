use mathlib.Core.List.{[], ◌∷◌}
use lib.Dec.{ltb}
use Rattle.std.proofs.Common.{rules}
use Rattle.std.proofs.lemmas.Iterator.{YieldsList-from_slice}
use Rattle.std.proofs.lemmas.Iterator.Search.{any_from_yields_List}
use Rattle.sheet.specs.Tests.{any}
use Rattle.charges.specs.Answer.{over_limit}
use Rattle.charges.proofs.amounts.over_limit.Goals as goal

pub returns : goal.returns
unfolding over_limit any
returns c = any_from_yields_List (ltb 100000000) _ _ _ c.any.ensures.ran (YieldsList-from_slice (c.args.a.power ∷ c.args.a.buyer ∷ c.args.a.supplier ∷ []) cc) (λ x b q k. search rules)

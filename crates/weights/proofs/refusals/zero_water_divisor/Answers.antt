use mathlib.Core.Path.{◌≡◌, refl}
use mathlib.Core.Bool.{Bool, true, false, ◌||◌}
use mathlib.Core.List.{[], ◌∷◌}
use native.Mathlib.Omega.{arith}
use Rattle.sheet.specs.Tests.{any}
use Rattle.sheet.specs.Layout.{sheet_of}
use Rattle.weights.proofs.Ready.{within}
use Rattle.weights.proofs.Tests.{water-divisor}
use Rattle.weights.proofs.refusals.zero_water_divisor.Goals as goal

chain : (a b c d : Bool) → (a || b || c || d) ≡ any (a ∷ b ∷ c ∷ d ∷ [])
unfolding any
chain true b c d = refl
chain false true c d = refl
chain false false true d = refl
chain false false false true = refl
chain false false false false = refl

pub overflow_add-result : goal.overflow_add-result
overflow_add-result c = omega (arith, (within c.args.basis.now).class1, (within c.args.basis.now).class2)

pub returns : goal.returns
returns c =
    let b = c.args.basis.now in
    rw chain
    (rw (c.lacks.ensures, c.lacks-2.ensures, c.lacks-3.ensures, c.from-common.ensures, c.header.ensures) (water-divisor (sheet_of b.sheet.bytes.now) b.totals b.summed))

use mathlib.Core.Path.{◌≡◌, refl, sym, ap, ◌∙◌}
use mathlib.Core.Bool.{Bool, true, ◌&&◌}
use mathlib.Core.List.{zip_with}
use native.Mathlib.Omega.{arith}
use lib.Dec.{ltb}
use lib.IntN.{ℤ, pos, negsuc}
use lib.Signed.{lt_z}
use Prim.Native.Nat.{◌<◌}
use borrow.Author.Tests.{ltb-true}
use mir.Syntax.{w64}
use mir.Val.{SFits, of_z, to_z}
use Rattle.std.proofs.Common.{rules, tests}
use Rattle.std.proofs.lemmas.Iterator.{YieldsList-from_slice, YieldsList-from_zip}
use Rattle.std.proofs.lemmas.Iterator.Search.{any_from_yields_List}
use Rattle.sheet.specs.Tests.{any}
use Rattle.group.specs.Group.{is_negative}
use Rattle.group.proofs.Lists.{any_is, same_z}
use Rattle.group.proofs.difference.goes_below.Goals as goal

below_0 : (z : ℤ) → lt_z z (pos 0) ≡ true → is_negative z ≡ true
below_0 (pos n) h = absurd (let none : n < 0 = ltb-true n 0 h in omega arith)
below_0 (negsuc n) h = refl

negative : (z : ℤ) → SFits w64 z → lt_z (to_z w64 (of_z w64 z)) (pos 0) ≡ true → is_negative z ≡ true
negative z fits h = below_0 z (ap (λ (y : ℤ). lt_z y (pos 0)) (sym (same_z fits)) ∙ h)

pub returns-then-difference-lt0 : goal.returns-then-difference-lt0
returns-then-difference-lt0 c =
    any_from_yields_List (λ p. ltb p.0 p.1) c.any.new.self _ _ c.any.ensures.ran (YieldsList-from_zip (YieldsList-from_slice c.args.commons.now cc) (YieldsList-from_slice c.args.shares.now cc)) (λ x b q k. search (rules, tests))
    ∙ any_is ltb c.args.commons.now c.args.shares.now
    ∙ ap (λ (t : Bool). t && any (zip_with ltb c.args.commons.now c.args.shares.now)) (sym (negative c.args.difference c.ranges.difference c.if-difference-lt0.true))

use mathlib.Core.Path.{◌≡◌, refl, sym, ap, ◌∙◌}
use mathlib.Core.List.{List, [], ◌∷◌, zip_with}
use Prim.Native.Nat.{ℕ, ◌*◌, ◌/◌, ◌%◌, ◌≤◌, ◌<◌}
use native.Mathlib.Omega.{arith}
use native.Mathlib.Nat.{div-add-mod', div-mul-le_self, mod-lt, mul-le-mul_left}
use lib.ListN.{length, get_or}
use Rattle.std.specs.List as std
use Rattle.std.proofs.Common.{rules}
use Rattle.apportion.specs.declared.tie_rule.TieRule.{TieRule}
use Rattle.apportion.specs.Shares.{sum, key_by, shares, added}
use Rattle.apportion.proofs.Turns.{turned, turns, key_by_remainder}
use Rattle.sheet.specs.RuleSets.{ties, newest}
use Rattle.month.proofs.Nearness.{item_le}
use Rattle.apportion.proofs.Sums.{sum_is}
use Rattle.settlement.proofs.Dividing.{all_shares}
use Rattle.apportion.proofs.Replacing.{none-replaced, one-replaced, all-replaced}
use Rattle.group.proofs.difference.share_difference.Invariants.{turned_with}
use Rattle.group.proofs.difference.share_difference.Goals.{After-iter, After-sum-whole, After-share}
use Rattle.group.proofs.difference.share_difference.Goals as goal

side_by_side : (turns : ℕ) (areas parts : List ℕ) → length areas ≡ length parts → zip_with (turned_with turns) areas parts ≡ added (turned turns areas) parts
unfolding zip_with
side_by_side turns [] parts e = refl
side_by_side turns (x ∷ xs) [] e = absurd (omega arith)
side_by_side turns (x ∷ xs) (y ∷ ys) e = ap (λ (r : List ℕ). turned_with turns x y ∷ r) (side_by_side turns xs ys (omega arith))

divided : (rule : TieRule) (size whole : ℕ) (ws parts out : List ℕ) → whole ≡ sum ws → 0 < sum ws → parts ≡ shares rule (size % whole) ws → out ≡ added (turned (size / whole) ws) parts → out ≡ shares rule size ws
divided rule size whole ws parts out e h p q =
    rw (q, p, e) (sym (turns (key_by rule) (key_by_remainder rule) (size / sum ws) (size % sum ws) ws h) ∙ ap (λ (t : ℕ). shares rule t ws) (div-add-mod' size (sum ws)))

-- an area's turns are within the size
turns-le : (size whole : ℕ) (areas : List ℕ) (x i : ℕ) → whole ≡ sum areas → size ≤ 48000000000 → x ≡ get_or areas i 0 → size / whole * x ≤ 48000000000
turns-le size whole areas x i e h same =
    let le : x ≤ whole = omega (arith, same, e, item_le areas i) in
    omega (arith, mul-le-mul_left (size / whole) le, div-mul-le_self size whole)

pub sum-whole-requires-clause-fits : goal.sum-whole-requires-clause-fits
sum-whole-requires-clause-fits c = let h : std.sum c.args.areas.now ≤ 19200000 = omega (arith, sum_is c.args.areas.now) in search rules

whole_is : (c : After-sum-whole) → c.sum-whole.result ≡ sum c.args.areas.now
whole_is c = let h : c.sum-whole.result ≡ std.sum c.args.areas.now = search rules in h ∙ sum_is c.args.areas.now

pub nonzero_rem-size : goal.nonzero_rem-size
nonzero_rem-size c = omega (arith, whole_is (goal.at.nonzero_rem-size c).After-sum-whole)

pub share-requires-clause-divides : goal.share-requires-clause-divides
share-requires-clause-divides c =
    let e = whole_is (goal.at.share-requires-clause-divides c).After-sum-whole in
    let rest = mod-lt c.args.size {m = c.sum-whole.result} (omega arith) in
    ((omega (arith, rest), λ z. absurd (omega arith)), omega arith)

pub nonzero_div-turns : goal.nonzero_div-turns
nonzero_div-turns c = omega (arith, whole_is (goal.at.nonzero_div-turns c).After-sum-whole)

pub loop-i-init : goal.loop-i-init
loop-i-init c = none-replaced _ _ _

pub overflow_mul-area : goal.overflow_mul-area
overflow_mul-area c =
    let l = c.loop-i in
    omega (arith, turns-le c.args.size c.sum-whole.result c.args.areas.now _ l.i (whole_is (goal.at.overflow_mul-area c).After-sum-whole) (omega arith) (l.invariant.rest l.i (omega arith)))

pub overflow_add-area : goal.overflow_add-area
overflow_add-area c =
    let l = c.loop-i in
    omega (arith, c.from.ensures, turns-le c.args.size c.sum-whole.result c.args.areas.now _ l.i (whole_is (goal.at.overflow_add-area c).After-sum-whole) (omega arith) (l.invariant.rest l.i (omega arith)))

pub loop-i-preserved : goal.loop-i-preserved
loop-i-preserved c =
    let l = c.loop-i in
    let turns = c.args.size / c.sum-whole.result in
    one-replaced _ _ _ l.i _ l.areas (omega arith) (ap (turned_with turns (get_or l.areas l.i 0)) c.from.ensures) l.invariant

pub returns : goal.returns
returns c =
    let l = c.loop-i in
    let a = c.args in
    let whole = c.sum-whole.result in
    let many : length a.areas.now ≡ length c.share.new.out = search rules in
    divided (ties newest) a.size whole a.areas.now c.share.new.out l.areas (whole_is (goal.at.returns c).After-sum-whole) (omega arith) (all_shares newest _ a.areas.now _ (search rules) c.share.ensures)
    (all-replaced _ _ _ l.i l.areas (omega arith) (omega arith) many l.invariant ∙ side_by_side (a.size / whole) a.areas.now c.share.new.out many)

-- `give_by_weight` meets its contract: a threshold of the keys, and for those at it one of their weights.
use mathlib.Core.Path.{◌≡◌, sym, ap, ◌∙◌}
use mathlib.Core.List.{List}
use Prim.Native.Nat.{ℕ, suc}
use native.Mathlib.Omega.{arith}
use lib.ListN.{length, get_or}
use Rattle.apportion.specs.Shares.{at_least, added}
use Rattle.apportion.specs.Inner.Selection.{largest, Cuts, given, tied}
use Rattle.apportion.proofs.Giving.{one_each, leftover_given}
use Rattle.apportion.proofs.Leftover.{length-added}
use Rattle.apportion.proofs.Tied.{tied_le, enough-tied, none_spared, by_weight}
use Rattle.apportion.proofs.by_weight.give_by_weight.Goals as goal
use Rattle.apportion.proofs.by_weight.give_by_weight.Goals.{After-threshold-cut, After-narrow-among}

same_cut : (left θ spare : ℕ) (ks : List ℕ) {l : ℕ} {js : List ℕ} → js ≡ ks → l ≡ left → Cuts l θ spare js → Cuts left θ spare ks
same_cut left θ spare ks e f h = omega (arith, h, f, ap (at_least θ) e, ap (at_least (suc θ)) e)

-- the cut of the keys
cut : (c : After-threshold-cut) → let t = c.threshold-cut.result in Cuts c.args.left t.theta t.spare c.args.keys.now
cut c = let t = c.threshold-cut in same_cut c.args.left t.result.theta t.result.spare c.args.keys.now c.new.ensures.0 c.new.ensures.1 t.ensures

pub returns-then-cut-eq0 : goal.returns-then-cut-eq0
returns-then-cut-eq0 c =
    let g = cut (goal.at.returns-then-cut-eq0 c).After-threshold-cut in
    let t = c.threshold-cut.result in
    let a = c.args in
    let r = c.requires.keys_len in
    none_spared a.left t.theta t.spare a.keys.now a.ws.now g (omega (arith, c.requires.left_nonzero)) r.0 r.1 a.out.now r.2 (omega arith) c.give_above.ensures

pub new-requires-2 : goal.new-requires-2
new-requires-2 c =
    let g = cut (goal.at.new-requires-2 c).After-threshold-cut in
    let t = c.threshold-cut.result in
    let a = c.args in
    let r = c.requires.keys_len in
    let k = c.keep_weights-kept.ensures in
    let enough = enough-tied a.left t.theta t.spare a.keys.now a.ws.now g (omega (arith, c.requires.left_nonzero)) r.0 r.1 in
    (omega arith, omega (arith, enough, k.is_positive), k.is_positive ∙ ap (at_least 1) (sym k.is-kept), k.is-largest ∙ ap largest (sym k.is-kept), omega (arith, k.is-largest, tied_le t.theta a.keys.now a.ws.now))

pub give_cut-requires : goal.give_cut-requires
give_cut-requires c =
    let g = cut (goal.at.give_cut-requires c).After-threshold-cut in
    let θ = c.threshold-cut.result.theta in
    let a = c.args in
    let e = c.give_above.ensures in (
      omega (arith, ap length e, length-added a.out.now (given θ 0 a.keys.now), c.requires, c.keep_weights-kept.auto),
      λ j. omega (arith, ap (λ (xs : List ℕ). get_or xs j 0) e, one_each θ a.out.now a.keys.now j, c.requires.out_len.1 j, g),
    )

pub returns : goal.returns
returns c =
    let g = cut (goal.at.returns c).After-threshold-cut in
    let t = c.threshold-cut.result in
    let a = c.args in
    let r = c.requires.keys_len in
    let among = c.narrow-among.result in
    let e = c.keep_weights-kept.ensures.is-kept in
    let ts = tied t.theta a.keys.now a.ws.now in
    let mid = c.give_above.new.out in
    let g₂ = same_cut t.spare among.theta among.spare ts (c.new-2.ensures.0 ∙ e) c.new-2.ensures.1 c.narrow-among.ensures.cuts in
    by_weight a.left t.theta t.spare a.keys.now a.ws.now g (omega (arith, c.requires.left_nonzero)) r.0 r.1 a.out.now r.2 c.give_above.ensures
    (c.give_cut.ensures ∙ ap (λ (ks : List ℕ). added mid (given among.theta among.spare ks)) e ∙ ap (added mid) (leftover_given t.spare among.theta among.spare ts g₂))

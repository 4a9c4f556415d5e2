use mathlib.Core.Path.{◌≡◌, sym, ap, ◌∙◌}
use mathlib.Core.List.{List, [], ◌∷◌, ◌++◌}
use Prim.Native.Nat.{ℕ, ◌+◌, ◌*◌, ◌-◌}
use native.Mathlib.Omega.{arith}
use lib.ListN.{length, drop, length-set}
use lib.Seq.{length-take-le}
use Rattle.weights.specs.Inner.Months.{sheet_of_month}
use Rattle.weights.proofs.Ready.{month_accepted}
use Rattle.month.specs.Weights.{unread_weights, pool_weight}
use Rattle.month.specs.Steps.{shares_under, pool_shares}
use Rattle.month.proofs.Accepted.{pool-positive}
use Rattle.month.proofs.Bounds.{weight_bounds}
use Rattle.month.proofs.DivisionBounds.{units_heat_le}
use Rattle.weights.proofs.Ready.{within}
use Rattle.settlement.proofs.Dividing.{front_shares}
use Rattle.settlement.proofs.Pool.{pool-weights, pool-fits}
use Rattle.settlement.proofs.heat.pool_shares.Goals as goal

pub overflow_mul-weights : goal.overflow_mul-weights
overflow_mul-weights c = omega (arith, (within c.args.month.now.basis).area)

pub overflow_sub-weights : goal.overflow_sub-weights
overflow_sub-weights c = let p = c.requires in pool-fits c.args.month.now p.model p.unmetered

pub bounds-weights-m : goal.bounds-weights-m
bounds-weights-m c =
    let g = c.gather-m in
    let w = pool-weights c.args.month.now c.requires.model g.new.out (omega (arith, g.array_long)) g.ensures.few g.ensures.weights in
    w.few

pub slice_bounds-weights-end : goal.slice_bounds-weights-end
slice_bounds-weights-end c =
    let g = c.gather-m in
    let w = pool-weights c.args.month.now c.requires.model g.new.out (omega (arith, g.array_long)) g.ensures.few g.ensures.weights in
    simp length-set (omega (arith, w.few, g.array_long))

pub slice_bounds-share-end : goal.slice_bounds-share-end
slice_bounds-share-end c =
    let g = c.gather-m in
    let w = pool-weights c.args.month.now c.requires.model g.new.out (omega (arith, g.array_long)) g.ensures.few g.ensures.weights in
    let l = length-set g.new.out g.result (10000 * c.args.month.now.basis.totals.area - c.args.month.now.basis.totals.unread) in
    sym (length-take-le (g.result + 1) _ (omega (arith, w.few, g.array_long, l)))

pub share-requires-clause-divides : goal.share-requires-clause-divides
share-requires-clause-divides c =
    let g = c.gather-m in
    let w = pool-weights c.args.month.now c.requires.model g.new.out (omega (arith, g.array_long)) g.ensures.few g.ensures.weights in
    let m = c.args.month.now in
    let s = sheet_of_month m in
    let a = month_accepted m in
    rw w.weights
    ((omega (arith, c.requires.asked.total-is, units_heat_le m.basis.rules s a), λ z. absurd (omega (arith, pool-positive s a))), omega (arith, (weight_bounds s a.checked-sheet m.basis.rules).pool))

pub returns-clause-few : goal.returns-clause-few
returns-clause-few c =
    let g = c.gather-m in
    let w = pool-weights c.args.month.now c.requires.model g.new.out (omega (arith, g.array_long)) g.ensures.few g.ensures.weights in
    (w.few, w.count)

pub returns-clause-shares : goal.returns-clause-shares
unfolding pool_shares
returns-clause-shares c =
    let g = c.gather-m in
    let m = c.args.month.now in
    let w = pool-weights m c.requires.model g.new.out (omega (arith, g.array_long)) g.ensures.few g.ensures.weights in
    let s = sheet_of_month m in
    let ws = unread_weights s ++ pool_weight s ∷ [] in
    let l = length-set g.new.out g.result (10000 * m.basis.totals.area - m.basis.totals.unread) in
    let many : length ws ≡ g.result + 1 = ap length (sym w.weights) ∙ length-take-le (g.result + 1) _ (omega (arith, w.few, g.array_long, l)) in
    front_shares m.basis.rules c.args.total (g.result + 1) ws c.share.new.out _ many (λ z. absurd (omega (arith, pool-positive s (month_accepted m)))) (c.share.ensures ∙ ap (λ (l : List ℕ). shares_under m.basis.rules c.args.total l ++ drop (length l) c.args.out.now) w.weights)
    ∙ ap (λ (t : ℕ). shares_under m.basis.rules t ws) c.requires.asked.total-is

-- Invariant: the numbers of the first i units are written.
use mathlib.Core.Path.{◌≡◌, refl}
use Prim.Native.Nat.{ℕ, ◌+◌, ◌*◌, ◌/◌, ◌%◌}
use native.Mathlib.Omega.{arith}
use lib.ListN.{get_or}
use Rattle.settlement.proofs.Writing.{put-none, put_four}
use Rattle.settlement.proofs.layout.energy_weights.Goals as goal

pub loop-i-init : goal.loop-i-init
loop-i-init c = put-none _ _ _

pub loop-i-preserved : goal.loop-i-preserved
loop-i-preserved c =
    let a = c.args in
    let l = c.loop-i in
    let from : ℕ → ℕ = λ k. 8 * (k / 4) + k % 4 in
    let energy : ℕ → ℕ = λ k. get_or a.statement.now (from k) 0 in
    let read : (k p v : ℕ) → from k ≡ p → v ≡ get_or a.statement.now p 0 → v ≡ energy k = λ k p v f e. rw f e in
    let m = 4 * l.i in
    let p = 8 * l.i in
    put_four (λ k. k) energy (λ k m e. e) _ l.weights l.i m (λ j h. refl) (omega arith)
    (read m p _ (omega arith) c.from.ensures)
    (read (m + 1) (p + 1) _ (omega arith) c.from-in-loop-i.ensures)
    (read (m + 2) (p + 2) _ (omega arith) c.from-in-loop-i-2.ensures)
    (read (m + 3) (p + 3) _ (omega arith) c.from-in-loop-i-3.ensures)
    l.invariant

pub returns : goal.returns
returns c =
    let l = c.loop-i in
    let e : l.i ≡ c.args.n = omega arith in
    rw (← e) l.invariant

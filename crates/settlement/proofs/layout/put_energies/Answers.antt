-- Invariant: the numbers of the first i units are written.
use mathlib.Core.Path.{◌≡◌, sym, ap, subst, ◌∙◌}
use mathlib.Core.List.{[], ◌∷◌}
use Prim.Native.Nat.{ℕ, ◌+◌, ◌*◌, ◌<◌}
use native.Mathlib.Omega.{arith}
use native.Mathlib.Nat.{add-zero}
use lib.ListN.{get_or}
use Rattle.month.specs.Steps.{whole_wh, unit_by_unit}
use Rattle.settlement.specs.Inner.Numbers.{Put, energy_place}
use Rattle.settlement.proofs.Writing.{put-none, put_four, by_unit-at}
use Rattle.settlement.proofs.layout.put_energies.Goals as goal

pub loop-i-init : goal.loop-i-init
loop-i-init c = put-none _ _ _

pub loop-i-preserved : goal.loop-i-preserved
loop-i-preserved c =
    let a = c.args in
    let l = c.loop-i in
    let g = c.put_four in
    let i = l.i in
    let energy : ℕ → ℕ = λ k. get_or (unit_by_unit whole_wh a.n a.a.now a.b.now a.c.now a.d.now) k 0 in
    let of-unit : (j : ℕ) → j < 4 → get_or (get_or a.a.now i 0 ∷ get_or a.b.now i 0 ∷ get_or a.c.now i 0 ∷ get_or a.d.now i 0 ∷ []) j 0 ≡ energy (4 * i + j) = λ j h. sym (by_unit-at a.n i j a.a.now a.b.now a.c.now a.d.now (omega arith) h) in
    let put = put_four energy_place energy (λ k m e. omega arith) _ l.statement i (8 * i) (λ j h. omega arith) (omega arith) (of-unit 0 (omega arith) ∙ ap energy (add-zero (4 * i))) (of-unit 1 (omega arith)) (of-unit 2 (omega arith)) (of-unit 3 (omega arith)) l.invariant in
    rw g.ensures put

pub returns : goal.returns
returns c =
    let a = c.args in
    let l = c.loop-i in
    let e : l.i ≡ a.n = omega arith in
    subst (λ (m : ℕ). Put energy_place (4 * m) (λ k. get_or (unit_by_unit whole_wh a.n a.a.now a.b.now a.c.now a.d.now) k 0) a.statement.now l.statement) e l.invariant

-- Invariant: the numbers of the first i units are written.
use mathlib.Core.Path.{◌≡◌, refl}
use Prim.Native.Nat.{◌+◌, ◌*◌}
use native.Mathlib.Omega.{arith}
use lib.ListN.{get_or}
use Rattle.settlement.specs.Inner.Numbers.{cost_place}
use Rattle.settlement.proofs.Writing.{put-none, put_four}
use Rattle.settlement.proofs.layout.put_costs.Goals as goal

pub loop-i-init : goal.loop-i-init
loop-i-init c = put-none _ _ _

pub loop-i-preserved : goal.loop-i-preserved
loop-i-preserved c =
    let a = c.args in
    let l = c.loop-i in
    let g = c.put_four in
    let i = l.i in
    let put = put_four cost_place (λ k. get_or a.cents.now k 0) (λ k m e. omega arith) _ l.statement i (8 * i + 4) (λ j h. omega arith) (omega arith) refl refl refl refl l.invariant in
    rw g.ensures put

pub returns : goal.returns
returns c =
    let l = c.loop-i in
    let e : l.i ≡ c.args.n = omega arith in
    rw (← e) l.invariant

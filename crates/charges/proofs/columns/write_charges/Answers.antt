-- Three columns, one after the other.
use mathlib.Core.List.{List}
use Prim.Native.Nat.{ℕ}
use native.Mathlib.Omega.{arith}
use Rattle.sheet.specs.RuleSets.{newest}
use Rattle.month.specs.Steps.{shares_under}
use Rattle.charges.specs.Charges.{columns}
use Rattle.charges.proofs.ByUnit.{all-written}
use Rattle.charges.proofs.columns.write_charges.Goals as goal

pub returns : goal.returns
unfolding columns
returns c =
    let first = c.charge in
    let second = c.charge-2 in
    let third = c.charge-3 in
    let a = c.args in
    let part : ℕ → List ℕ = λ amount. shares_under newest amount a.weights.now in
    all-written _ (part a.a.power) (part a.a.buyer) (part a.a.supplier) _ _ _ _ first.ensures second.ensures third.ensures (omega (arith, first.auto, second.auto, third.auto, c.requires.0.room))

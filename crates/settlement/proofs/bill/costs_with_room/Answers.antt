-- A bill that can be divided over the energies is.
use mathlib.Core.Path.{◌≡◌, ap, ap₂, subst⁻¹, ◌∙◌}
use mathlib.Core.List.{List, ◌++◌}
use Prim.Native.Nat.{ℕ, ◌-◌, ◌*◌, ◌^◌, ◌<◌}
use native.Mathlib.Omega.{arith}
use lib.ListN.{length, take, drop, replicate}
use lib.Seq.{take_at}
use Rattle.apportion.specs.declared.tie_rule.TieRule.{TieRule}
use Rattle.apportion.specs.Shares.{sum, shares}
use Rattle.month.specs.Month.{four_and_four}
use Rattle.settlement.specs.Inner.Numbers.{energies_in}
use Rattle.settlement.proofs.Parts.{lent_length}
use Rattle.settlement.proofs.Writing.{energies-read, statement-is}
use Rattle.settlement.proofs.bill.costs_with_room.Given.{Over}
use Rattle.settlement.proofs.bill.costs_with_room.Goals as goal
use Rattle.settlement.proofs.bill.costs_with_room.Goals.{After-energy_weights}

-- the weights lent are the energies
weights-are : (g : Over) (c : After-energy_weights g) → let n = c.args.n in
    take (4 * n) (c.energy_weights.new.weights ++ drop (4 * n) (replicate g.row.N 0)) ≡ energies_in n c.args.statement.now
weights-are g c =
    let n = c.args.n in
    let w = c.energy_weights in
    let many : length w.new.weights ≡ 4 * n = omega (arith, w.auto, lent_length g.row.N (4 * n) c.requires.room.0) in
    take_at w.new.weights _ (4 * n) many ∙ energies-read n _ c.requires.billed.room _ _ many w.ensures

pub apportion-requires-clause-total_bound : goal.apportion-requires-clause-total_bound
apportion-requires-clause-total_bound g c =
    let p = c.requires.billed in
    subst⁻¹ (λ (l : List ℕ). (c.args.bill < 2 ^ 32 - 1) × (sum l < 2 ^ 62) × (sum l ≡ 0 → c.args.bill ≡ 0))
    (weights-are g (goal.at.apportion-requires-clause-total_bound g c).After-energy_weights)
    (omega (arith, p.bill-fits), p.energies_fit, p.divisible)

pub returns : goal.returns
returns g c =
    let p = c.requires in
    let n = c.args.n in
    let d = c.apportion in
    let put = c.put_costs in
    let many : length d.new.out ≡ 4 * n = omega (arith, d.auto, lent_length g.row.N (4 * n) p.room.0) in
    let cents = take_at d.new.out (drop (4 * n) (replicate g.row.N 0)) (4 * n) many in
    statement-is n _ p.billed.room _ put.new.statement (ap length cents ∙ many) (omega (arith, put.auto, p.billed.room)) put.ensures
    ∙ ap (four_and_four n (energies_in n c.args.statement.now)) (cents ∙ d.ensures.0 ∙ ap₂ (λ (t : TieRule) (l : List ℕ). shares t c.args.bill l) c.ties.ensures (weights-are g (goal.at.returns g c).After-energy_weights))

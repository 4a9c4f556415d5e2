use mathlib.Core.Path.{◌≡◌, refl, sym, ap, ◌∙◌}
use mathlib.Core.Bool.{true}
use mathlib.Core.List.{map}
use Prim.Native.Nat.{◌≤◌}
use native.Mathlib.Omega.{arith}
use lib.ListN.{length, take}
use lib.Seq.{take_at, take_all, length-take-le}
use Rattle.sheet.specs.Layout.{UnitRow}
use Rattle.weights.specs.Inner.Months.{sheet_of_month}
use Rattle.weights.proofs.Ready.{month_accepted}
use Rattle.month.specs.Steps.{heat}
use Rattle.weights.proofs.Rows.{turn-row}
use Rattle.settlement.proofs.Dividing.{those-all}
use Rattle.settlement.proofs.heat.heat_by_meters.Goals as goal

pub loop-i-init : goal.loop-i-init
loop-i-init c = refl

pub loop-i-preserved : goal.loop-i-preserved
loop-i-preserved c =
    let l = c.loop-i in
    let long = l.auto.heat-items ∙ length-take-le c.unit_count.result _ (omega (arith, c.unit_count.ensures)) in
    turn-row (λ u. true) (λ u. u.reading) c.args.month.now.basis.sheet.bytes.now l.heat-items l.i l.i c.field.result 1 (omega (arith, c.loop-i-test.true, long, c.unit_count.ensures)) (omega (arith, c.loop-i-test.true)) (c.field.ensures ∙ ap (λ (u : UnitRow). u.reading) c.row.ensures.unit) refl l.invariant

pub returns : goal.returns
unfolding heat
returns c =
    let l = c.loop-i in
    let m = c.args.month.now in
    let s = sheet_of_month m in
    let long = l.auto.heat-items ∙ length-take-le c.unit_count.result _ (omega (arith, c.unit_count.ensures)) in
    let n : length l.heat-items ≡ s.unit_count = omega (arith, long, c.unit_count.ensures) in
    let all : take l.i l.heat-items ≡ l.heat-items = take_all l.i l.heat-items (omega (arith, c.loop-i-test.false)) in
    let few : length s.units ≤ l.i = omega (arith, c.loop-i-test.false, n, (month_accepted m).checked-sheet.unit_count_lem) in
    rw c.requires (take_at l.heat-items _ s.unit_count n ∙ sym all ∙ l.invariant ∙ ap (map (λ (u : UnitRow). u.reading)) (those-all _ ∙ take_all l.i s.units few))

-- The bill of the shared reading at the first building's price, divided over the adjusted readings.
use mathlib.Core.Path.{◌≡◌, sym, ap, ◌∙◌}
use mathlib.Core.List.{List}
use Prim.Native.Nat.{ℕ, ◌≤◌}
use native.Mathlib.Omega.{arith}
use lib.ListN.{length, replicate}
use lib.Seq.{length-take-le}
use Rattle.settlement.proofs.Dividing.{all_shares}
use Rattle.sheet.specs.RuleSets.{newest}
use Rattle.sheet.specs.Layout.{Sheet, sheet_of}
use Rattle.month.specs.Steps.{shares_under}
use Rattle.group.specs.Group.{shared_bill}
use Rattle.group.specs.Inner.Parts.{group_in}
use Rattle.group.proofs.Parts.{sheet-at, placed}
use Rattle.group.proofs.Charges.{readings_many, bill-is, bill-divides, readings_fit, charges, group-written}
use Rattle.group.proofs.buildings.PassedGroup.write.Goals.{After-cents_for-bill, After-share}
use Rattle.group.proofs.buildings.PassedGroup.write.Goals as goal

bill : (c : After-cents_for-bill) → c.cents_for-bill.result ≡ shared_bill (group_in c.args.self.group)
bill c =
    let g = c.args.self.group in
    let first = sheet-at g.sheets.now g.buildings.now 0 (placed _ _ _ g.good).some in
    bill-is c.requires c.cents_for-bill.ensures.0 (c.from-price.ensures ∙ c.header.ensures ∙ ap (λ (bytes : List _). (sheet_of bytes).price) c.sheet.ensures ∙ ap (λ (s : Sheet). s.price) (sym first))

divided : (c : After-share) → c.share.new.out ≡ shares_under newest c.cents_for-bill.result c.args.readings.now
divided c = all_shares newest _ c.args.readings.now _ (length-take-le _ _ (omega (arith, readings_many c.requires))) c.share.ensures

pub slice_bounds-bills-end : goal.slice_bounds-bills-end
slice_bounds-bills-end c = omega (arith, readings_many c.requires)

pub slice_bounds-bills-end-2 : goal.slice_bounds-bills-end-2
slice_bounds-bills-end-2 c = sym (length-take-le _ _ (omega (arith, readings_many c.requires)))

pub share-requires-clause-few : goal.share-requires-clause-few
share-requires-clause-few c = let few : length c.args.readings.now ≤ 12 = omega (arith, readings_many c.requires) in (omega arith, omega (arith, length-take-le (length c.args.readings.now) (replicate {A = ℕ} 12 0) few))

pub share-requires-clause-divides : goal.share-requires-clause-divides
share-requires-clause-divides c = let is = bill (goal.at.share-requires-clause-divides c).After-cents_for-bill in (bill-divides c.requires is, readings_fit c.requires is)

pub write_all-requires : goal.write_all-requires
write_all-requires c = charges c.requires (bill (goal.at.write_all-requires c).After-cents_for-bill) (divided (goal.at.write_all-requires c).After-share)

pub returns : goal.returns
returns c = c.write_all.ensures ∙ group-written c.requires (bill (goal.at.returns c).After-cents_for-bill) (divided (goal.at.returns c).After-share)

-- What an accepted group brings to each building, as code meets it. Assumes nothing.
use mathlib.Core.Path.{◌≡◌, refl, sym, ap, ap₂, ◌∙◌}
use mathlib.Core.List.{List, [], ◌∷◌}
use Prim.Native.Nat.{ℕ, ◌^◌, ◌-◌, ◌<◌}
use native.Mathlib.Omega.{arith}
use lib.ListN.{length, get_or}
use Rattle.apportion.specs.Shares.{sum}
use Rattle.sheet.specs.declared.rule_set.RuleSet.{RuleSet}
use Rattle.sheet.specs.Layout.{Sheet, sheet_of}
use Rattle.month.specs.Steps.{shares_under, whole_wh, energies_with}
use Rattle.month.specs.Month.{cents_for}
use Rattle.group.specs.Group.{Group, joined, shared_price, shared_bill, common_heats, bill_parts, group_units, group_statement}
use Rattle.group.specs.Inner.Figures.{statements_of, Charges, Adjusted}
use Rattle.group.proofs.Lists.{as_many}
use Rattle.group.proofs.Bounds.{bill_le}
use Rattle.group.proofs.Readings.{readings_add, common_heat_le, heats_beside}
use Rattle.group.proofs.Bills.{parts_fair, bill-divisible}
use Rattle.group.proofs.Statements.{heats-length, statements_joined, part_le, divisible-at}

first-price : (ss : List Sheet) → 0 < length ss → (get_or ss 0 (sheet_of [])).price ≡ shared_price ss
unfolding shared_price
first-price [] h = absurd (omega arith)
first-price (s ∷ ss) h = refl

module _ {rules : RuleSet} {g : Group} {readings commons out : List ℕ} (a : Adjusted rules g readings commons out) where
  pub readings_many : length readings ≡ length g.buildings
  readings_many = ap length a.readings_are ∙ sym (as_many (heats_beside rules g a.accepted-group)) ∙ heats-length rules g a.accepted-group

  pub bill-is : {bill price : ℕ} → bill ≡ cents_for g.shared_reading price → price ≡ (get_or g.buildings 0 (sheet_of [])).price → bill ≡ shared_bill g
  unfolding shared_bill
  bill-is e f = e ∙ ap (cents_for g.shared_reading) (f ∙ first-price g.buildings a.accepted-group.checked-group.some)

  -- the bill can be divided over the adjusted readings
  module _ {bill : ℕ} (is : bill ≡ shared_bill g) where
    pub bill-divides : (bill < 2 ^ 32 - 1) × (sum readings ≡ 0 → bill ≡ 0)
    bill-divides = (
      omega (arith, bill_le g a.accepted-group.checked-group),
      (λ z. is ∙ bill-divisible rules g a.accepted-group (ap sum (sym a.readings_are) ∙ z)),
    )

    pub readings_fit : sum readings < 2 ^ 62
    readings_fit = omega (arith, ap sum a.readings_are, readings_add rules g a.accepted-group, a.accepted-group.checked-group.reading)

    module _ {bills : List ℕ} (shared : bills ≡ shares_under rules bill readings) where
      bills_are : bills ≡ bill_parts rules g
      unfolding bill_parts
      bills_are = shared ∙ ap₂ (shares_under rules) is a.readings_are

      common-at : (i : ℕ) → get_or commons i 0 ≡ get_or (common_heats whole_wh rules g) i 0
      common-at i = ap (λ (xs : List ℕ). get_or xs i 0) a.commons_are

      bill_at_lem : (i : ℕ) → get_or bills i 0 ≡ get_or (bill_parts rules g) i 0
      bill_at_lem i = ap (λ (xs : List ℕ). get_or xs i 0) bills_are

      pub charges : Charges rules g.buildings commons bills out
      unfolding group_units
      charges = record {
        commons_many = ap length a.commons_are ∙ heats-length rules g a.accepted-group;
        bills_many = ap length bills_are ∙ (parts_fair rules g a.accepted-group).as_many ∙ sym (as_many (heats_beside rules g a.accepted-group)) ∙ heats-length rules g a.accepted-group;
        commons_fit = λ i. omega (arith, common-at i, common_heat_le rules g a.accepted-group i);
        bills_fit = λ i. omega (arith, bill_at_lem i, part_le rules g a.accepted-group i);
        divisible = λ i h z.
            let d = divisible-at rules g a.accepted-group i (sheet_of []) h in
            bill_at_lem i ∙ d (ap (λ (c : ℕ). sum (energies_with whole_wh rules (get_or g.buildings i (sheet_of [])) c)) (sym (common-at i)) ∙ z);
        out-room = a.out-room;
      }

      -- and the statements written by them are the group's
      pub group-written : joined (statements_of rules g.buildings commons bills) ≡ group_statement rules g
      group-written = ap joined (ap₂ (statements_of rules g.buildings) a.commons_are bills_are) ∙ sym (statements_joined rules g a.accepted-group)

-- A group of one building whose shared reading is its own M: the difference is 0, the bill its own (specs/Laws.antt). Assumes nothing.
use mathlib.Core.Path.{◌≡◌, refl, sym, ap, ap₂, ◌∙◌}
use mathlib.Core.Bool.{Bool, true, false}
use mathlib.Core.List.{List, [], ◌∷◌, zip_with, append-nil}
use Prim.Native.Nat.{ℕ, ◌+◌, ◌*◌, ◌≤◌}
use native.Mathlib.Omega.{arith}
use native.Mathlib.Nat.{add-zero}
use borrow.Author.Tests.{le-ltb}
use lib.Dec.{eqb}
use lib.IntN.{ℤ, pos, negsuc, nat_abs}
use lib.ListN.{length}
use Rattle.apportion.specs.Shares.{sum}
use Rattle.sheet.specs.Tests.{any}
use Rattle.sheet.specs.declared.refusal.Refusal.{Refusal}
use Rattle.sheet.specs.Refusals.{Outcome, first_refusal}
use Rattle.std.specs.Prelude.{Ok, Err}
use Rattle.sheet.specs.declared.rule_set.RuleSet.{RuleSet}
use Rattle.sheet.specs.Layout.{Sheet, sheet_of}
use Rattle.month.specs.Steps.{whole_wh, heat_parts}
use Rattle.month.specs.Month.{bill_cents, statement_of, month_of, settle_rules, settled_sheet}
use Rattle.month.specs.Inner.Accepted.{AcceptedSheet}
use Rattle.month.proofs.Nearness.{up, down}
use Rattle.month.proofs.Accepted.{accepted}
use Rattle.settlement.specs.Settle.{settle_answer, statement_after}
use Rattle.group.specs.declared.buildings.Building.{Building}
use Rattle.group.specs.Group.{Group, difference, joined, difference_shares, common_heats, shared_price, shared_bill, bill_parts, common_heat_below_zero, group_units, group_statement}
use Rattle.group.specs.Answer.{part_of, group_of, bad_group, refusal_or, first_in, own_stages, unlike, group_stages, group_answer, group_after}
use Rattle.group.specs.Laws.{OneBuilding}
use Rattle.group.specs.Inner.Accepted.{CheckedGroup, AcceptedGroup}
use Rattle.group.specs.Inner.Figures.{statements_of}
use Rattle.group.proofs.Lists.{as_many}
use Rattle.group.proofs.Answers.{covers}
use Rattle.group.proofs.Bounds.{difference_parts}
use Rattle.group.proofs.Readings.{shares-fair, shares-length, heats_beside}
use Rattle.group.proofs.Bills.{parts_fair}
use Rattle.group.proofs.Statements.{heats-length, statements_joined}

-- ---- one item is the sum of all
alone : (xs : List ℕ) → length xs ≡ 1 → xs ≡ sum xs ∷ []
alone [] e = absurd (omega arith)
alone (x ∷ []) e = ap (λ (n : ℕ). n ∷ []) (omega arith)
alone (x ∷ (y ∷ ys)) e = absurd (omega arith)

-- as much up as down
even : (z : ℤ) → up z ≡ down z → z ≡ pos 0
even (pos n) e = ap pos e
even (negsuc n) e = absurd (omega arith)

-- ---- the group of one sheet
module _ (rules : RuleSet) (s : Sheet) where
  abbrev g : Group
  g = record { buildings = s ∷ []; shared_reading = s.shared_meter }

  no_difference : difference g ≡ pos 0
  no_difference = even (difference g) (omega (arith, difference_parts g))

  never_below : common_heat_below_zero rules g ≡ false
  unfolding common_heat_below_zero
  never_below = rw no_difference

  module _ (a : AcceptedSheet s) where
    checked : CheckedGroup g
    checked = record { each = (a, tt); some = omega arith; count = omega arith; reading = a.checked-sheet.header.shared_meter }

    accepted-alone : AcceptedGroup rules g
    accepted-alone = covers rules g checked never_below

    shares_are : difference_shares whole_wh rules g ≡ 0 ∷ []
    shares_are = alone _ (shares-length g checked rules) ∙ ap (λ (x : ℕ). x ∷ []) ((shares-fair g checked rules).adds_up ∙ ap nat_abs no_difference)

    heats_are : common_heats whole_wh rules g ≡ (heat_parts whole_wh rules s).common ∷ []
    unfolding common_heats zip_with
    heats_are = rw (no_difference, shares_are, add-zero)

    bill-is : bill_parts rules g ≡ bill_cents s ∷ []
    unfolding bill_cents shared_bill shared_price
    bill-is =
        let fair = parts_fair rules g accepted-alone in
        alone _ (fair.as_many ∙ sym (as_many (heats_beside rules g accepted-alone)) ∙ heats-length rules g accepted-alone) ∙ ap (λ (x : ℕ). x ∷ []) fair.adds_up

    statement-is : group_statement rules g ≡ statement_of rules s
    unfolding statement_of joined zip_with
    statement-is =
        statements_joined rules g accepted-alone
        ∙ ap₂ (λ (heats parts : List ℕ). joined (statements_of rules (s ∷ []) heats parts)) heats_are bill-is
        ∙ append-nil _

-- ---- its answer
module _ (rules : RuleSet) (buffer : List ℕ) (b : Building) (list : List ℕ) (inside : b.offset + b.length ≤ length buffer) where
  abbrev part : List ℕ
  part = part_of buffer b

  abbrev s : Sheet
  s = sheet_of part

  module _ (le : s.shared_meter ≤ 4000000000) where
    not-bad : bad_group buffer (b ∷ []) s.shared_meter ≡ false
    unfolding bad_group any
    not-bad = rw (le-ltb 4000000000 s.shared_meter le, le-ltb (length buffer) (b.offset + b.length) inside)

    abbrev Same : Type 0
    Same = (group_answer rules buffer (b ∷ []) s.shared_meter list ≡ refusal_or 0 (settle_answer rules part list) (Ok tt))
        × (group_after rules buffer (b ∷ []) s.shared_meter list ≡ statement_after rules part list)

    refused-alone : (r : Refusal) → first_refusal (settle_rules part) ≡ Err r → Same
    unfolding group_after group_answer group_stages first_in own_stages first_refusal settle_answer statement_after settled_sheet
    refused-alone r e = rw (not-bad, e) (refl, refl)

    settled-alone : first_refusal (settle_rules part) ≡ Ok tt → (t : Bool) → eqb (length list) (8 * s.unit_count) ≡ t → Same
    unfolding group_after group_answer group_stages first_in own_stages first_refusal settle_answer statement_after settled_sheet month_of group_of unlike any group_units
    settled-alone e true f = rw (not-bad, e, add-zero, f, never_below rules s) (refl, statement-is rules s (accepted part e))
    settled-alone e false f = rw (not-bad, e, add-zero, f) (refl, refl)

    same : (o : Outcome) → first_refusal (settle_rules part) ≡ o → Same
    same (Ok tt) e = settled-alone e (eqb (length list) (8 * s.unit_count)) refl
    same (Err r) e = refused-alone r e

pub one-building : OneBuilding
one-building rules buffer b list inside le = same rules buffer b list inside le (first_refusal (settle_rules (part_of buffer b))) refl

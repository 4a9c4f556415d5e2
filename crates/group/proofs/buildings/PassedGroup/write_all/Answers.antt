use mathlib.Core.Path.{◌≡◌, sym, ap, subst, ◌∙◌}
use mathlib.Core.List.{List, [], ◌∷◌}
use mathlib.Core.Logic.{inl, inr}
use Prim.Native.Nat.{ℕ, ◌+◌, ◌*◌, ◌-◌, ◌≤◌, ◌<◌}
use native.Mathlib.Omega.{arith}
use lib.ListN.{length, get_or, drop, length-drop}
use lib.Seq.{get_or-drop, drop-drop}
use borrow.Rule.Slice.PartMut.{mid_of, same_len_mid, mid_len}
use Rattle.std.proofs.Common.{rules}
use Rattle.std.specs.Iterator.Adapters.{enumerate_count}
use Rattle.sheet.specs.RuleSets.{newest}
use Rattle.sheet.specs.Layout.{Sheet, sheet_of}
use Rattle.sheet.specs.Refusals.{first_refusal}
use Rattle.month.specs.Month.{statement_with, settle_rules}
use Rattle.settlement.specs.Inner.Building.{GroupCharges}
use Rattle.group.specs.declared.buildings.PassedGroup.{PassedGroup}
use Rattle.group.specs.Inner.Parts.{sheets_in, part_in}
use Rattle.group.specs.Inner.Figures.{Charges}
use Rattle.group.proofs.Parts.{sheet-count, sheet-at}
use Rattle.group.proofs.Passing.{passes, units_few}
use Rattle.group.proofs.Written.{Done, as_many_done, none_done, inside, charged, one-done, all_done}
use Rattle.group.proofs.buildings.PassedGroup.write_all.Goals.{After-unit_count}
use Rattle.group.proofs.buildings.PassedGroup.write_all.Goals as goal

-- what an iterator yields is item k of the list, where k are behind it
module _ (xs : List ℕ) (k : ℕ) {x : ℕ} {rest left : List ℕ} (is : left ≡ drop k xs) (cut : left ≡ x ∷ rest) where
  below : k < length xs
  below = omega (arith, ap length is, ap length cut, length-drop k xs)

  here : x ≡ get_or xs k 0
  here = let e : k + 0 ≡ k = omega arith in ap (λ (l : List ℕ). get_or l 0 0) (sym cut ∙ is) ∙ get_or-drop k xs 0 0 ∙ ap (λ (j : ℕ). get_or xs j 0) e

  behind : rest ≡ drop (k + 1) xs
  behind = ap (drop 1) (sym cut ∙ is) ∙ drop-drop 1 k xs

-- building i, which has n units
module _ (p : PassedGroup) (i : ℕ) (h : i < length p.group.buildings.now) where
  abbrev sheet : Sheet
  sheet = get_or (sheets_in p.group) i (sheet_of [])

  there : i < length (sheets_in p.group)
  there = omega (arith, sheet-count p.group.sheets.now p.group.buildings.now)

  module _ {bytes : List ℕ} (part : bytes ≡ part_in p.group i) {n : ℕ} (is : n ≡ (sheet_of bytes).unit_count) where
    same : sheet ≡ sheet_of bytes
    same = sheet-at p.group.sheets.now p.group.buildings.now i h ∙ ap sheet_of (sym part)

    units : n ≡ sheet.unit_count
    units = is ∙ ap (λ (s : Sheet). s.unit_count) (sym same)

    module _ {commons bills start out : List ℕ} {at : ℕ} (c : Charges newest (sheets_in p.group) commons bills start) (d : Done newest (sheets_in p.group) commons bills out at i) where
      -- its place ends inside the list
      ends : at + 8 * n ≤ length out
      ends = omega (arith, units, inside newest _ _ _ c d there)

      -- which has at most 15,360 numbers
      within : at + 8 * n ≤ 15360
      within = omega (arith, ends, d.room, units_few _ _ p.passed p.group.reading p.group.good)

      -- the part that is lent has 8n numbers
      lent : length (mid_of at (at + 8 * n - at) out) ≡ 8 * n
      lent = mid_len at (at + 8 * n) out ends ∙ omega arith

pub loop-i-init : goal.loop-i-init
loop-i-init c =
    let none : enumerate_count c.into_iter-i-iterator.result ≡ 0 = search rules in
    record { done = as_many_done newest _ _ _ (sym none) (none_done newest _ _ _ c.requires); commons_left = search rules; bills_left = search rules }

-- the building that the pair's place names
module _ (c : After-unit_count) where
  there_is : c.in-Some.i < length c.args.self.group.buildings.now
  there_is =
      let h = c.in-Some.ensures.steps in
      omega (arith, h.1, below c.args.commons.now _ c.loop-i.invariant.commons_left h.0.0, c.requires.commons_many, sheet-count c.args.self.group.sheets.now c.args.self.group.buildings.now)

  done : Done newest (sheets_in c.args.self.group) c.args.commons.now c.args.bills.now c.loop-i.statement c.loop-i.at c.in-Some.i
  done = as_many_done newest _ _ _ (sym c.in-Some.ensures.steps.1) c.loop-i.invariant.done

  common_is : c.in-Some.field-0-1-0.now ≡ get_or c.args.commons.now c.in-Some.i 0
  common_is = let h = c.in-Some.ensures.steps in here c.args.commons.now _ c.loop-i.invariant.commons_left h.0.0 ∙ ap (λ (k : ℕ). get_or c.args.commons.now k 0) (sym h.1)

  bill_is : c.in-Some.field-0-1-1.now ≡ get_or c.args.bills.now c.in-Some.i 0
  bill_is = let h = c.in-Some.ensures.steps in here c.args.bills.now _ c.loop-i.invariant.bills_left h.0.1 ∙ ap (λ (k : ℕ). get_or c.args.bills.now k 0) (sym h.1)

pub overflow_add-end : goal.overflow_add-end
overflow_add-end c = omega (arith, within c.args.self c.in-Some.i (there_is c) c.sheet-sheet.ensures c.unit_count.ensures.0 c.requires (done c))

pub offset_bounds-statement-at : goal.offset_bounds-statement-at
offset_bounds-statement-at c = omega (arith, within c.args.self c.in-Some.i (there_is c) c.sheet-sheet.ensures c.unit_count.ensures.0 c.requires (done c))

pub slice_bounds-part-end : goal.slice_bounds-part-end
slice_bounds-part-end c = omega (arith, ends c.args.self c.in-Some.i (there_is c) c.sheet-sheet.ensures c.unit_count.ensures.0 c.requires (done c))

pub settle_with-requires : goal.settle_with-requires
settle_with-requires c =
    let at = (goal.at.settle_with-requires c).After-unit_count in
    let p = c.args.self in
    let i = c.in-Some.i in
    let part = c.sheet-sheet.ensures in
    let count = c.unit_count.ensures.0 in
    let h = there_is at in
    let l = lent p i h part count c.requires (done at) in
    let accepted = ap (λ (bytes : List ℕ). first_refusal (settle_rules bytes)) part ∙ passes p.group.sheets.now p.group.buildings.now p.passed i h in
    subst (λ (common : ℕ). GroupCharges newest c.sheet-sheet.result.bytes.now common c.from.result (mid_of c.loop-i.at (c.loop-i.at + 8 * c.unit_count.result - c.loop-i.at) c.loop-i.statement)) (sym (common_is at))
    (charged newest _ _ _ c.requires (same p i h part count) accepted (there p i h) (c.from.ensures ∙ bill_is at) (l ∙ ap (λ (k : ℕ). 8 * k) (units p i h part count)))

pub loop-i-preserved : goal.loop-i-preserved
loop-i-preserved c =
    let at = (goal.at.loop-i-preserved c).After-unit_count in
    let steps = c.in-Some.ensures.steps in
    let p = c.args.self in
    let l = c.loop-i in
    let i = c.in-Some.i in
    let w = c.settle_with in
    let part = c.sheet-sheet.ensures in
    let count = c.unit_count.ensures.0 in
    let h = there_is at in
    let block = w.new.statement in
    let n = c.unit_count.result in
    let long = lent p i h part count c.requires (done at) in
    let own = sym (same p i h part count) in
    let bill = c.from.ensures ∙ bill_is at in
    let one = one-done newest _ _ _ c.requires block _ (done at) (there p i h) (units p i h part count) (w.auto.statement ∙ long) (same_len_mid l.at (l.at + 8 * n - l.at) l.statement block w.auto.statement)
    (w.ensures ∙ (λ j. statement_with newest (own j) (common_is at j) (bill j))) in
    record {
      done = as_many_done newest _ _ _ (omega (arith, steps.1, steps.2)) one;
      commons_left = behind c.args.commons.now _ l.invariant.commons_left steps.0.0 ∙ ap (λ (k : ℕ). drop k c.args.commons.now) (sym steps.2);
      bills_left = behind c.args.bills.now _ l.invariant.bills_left steps.0.1 ∙ ap (λ (k : ℕ). drop k c.args.bills.now) (sym steps.2);
    }

pub returns : goal.returns
returns c =
    let h = c.in-None.ensures.steps in
    let i = c.loop-i.invariant in
    let few : length (sheets_in c.args.self.group) ≤ enumerate_count c.loop-i.i-iterator = elim h.0 [
      | inl n ↦ omega (arith, n.1.0, ap length i.commons_left, length-drop (enumerate_count c.loop-i.i-iterator) c.args.commons.now, c.requires.commons_many)
      | inr n ↦ omega (arith, n.1.0, ap length i.bills_left, length-drop (enumerate_count c.loop-i.i-iterator) c.args.bills.now, c.requires.bills_many)
    ] in
    all_done newest _ _ _ c.requires i.done few

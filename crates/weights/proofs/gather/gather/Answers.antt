use mathlib.Core.Path.{◌≡◌, refl, sym, ap, ap₂, ◌∙◌}
use mathlib.Core.Bool.{Bool, true, false}
use mathlib.Core.List.{List, [], ◌∷◌}
use Prim.Native.Nat.{ℕ, ◌<◌}
use native.Mathlib.Omega.{arith}
use lib.ListN.{length, take, length-append}
use lib.Seq.{take_all}
use mir.Val.{bool_byte}
use Rattle.std.proofs.Common.{Bor, rules}
use Rattle.apportion.specs.Shares.{bit}
use Rattle.sheet.specs.Layout.{unit_row, sheet_of}
use Rattle.sheet.specs.Inner.Fields.{unit_of}
use Rattle.sheet.specs.Inner.Views.{sheet_in}
use Rattle.sheet.proofs.RowViews.{row_turn, row_end}
use Rattle.weights.specs.Inner.By.{takes_part, weight_of, weights_by}
use Rattle.weights.proofs.Rows.{bit_le, chosen, turn-row}
use Rattle.weights.proofs.gather.gather.Goals.{After-weight}
use Rattle.weights.proofs.gather.gather.Goals as goal

byte_is_bit : (t : Bool) → bool_byte t ≡ bit t
byte_is_bit true = refl
byte_is_bit false = refl

pub invariant_of-weight : goal.invariant_of-weight
invariant_of-weight c =
    let l = c.loop-row in
    let sheet = c.args.basis.now.sheet in
    let turn = row_turn (sheet_of sheet.bytes.now).units sheet.bytes l.yielded c.into_iter-row-iterator.result l.row-iterator c.next.new.self (search rules) (search rules) l.yielded_by _ c.in-Some.row c.in-Some.is c.next.ensures.steps in
    record { same_sheet = ap (λ (b : Bor (List ℕ)). b.now) turn.1 }

few : (c : After-weight) → c.loop-row.m < 160
few c =
    let l = c.loop-row in
    let sheet = c.args.basis.now.sheet in
    let turn = row_turn (sheet_of sheet.bytes.now).units sheet.bytes l.yielded c.into_iter-row-iterator.result l.row-iterator c.next.new.self (search rules) (search rules) l.yielded_by _ c.in-Some.row c.in-Some.is c.next.ensures.steps in
    omega (arith, turn.0, sheet.fits.units_length, sheet.fits.header.unit_count, l.invariant.0)

pub offset_bounds-out-m : goal.offset_bounds-out-m
offset_bounds-out-m c = omega (arith, few (goal.at.offset_bounds-out-m c).After-weight)

pub bounds-out-m : goal.bounds-out-m
bounds-out-m c = few (goal.at.bounds-out-m c).After-weight

pub overflow_add-m : goal.overflow_add-m
overflow_add-m c = omega (arith, few (goal.at.overflow_add-m c).After-weight, c.from-m.ensures, bit_le c.part.result, byte_is_bit c.part.result)

pub loop-row-preserved : goal.loop-row-preserved
loop-row-preserved c =
    let b = c.args.basis.now in
    let by = c.args.by in
    let l = c.loop-row in
    let i = length l.yielded in
    let s = sheet_of b.sheet.bytes.now in
    let u = unit_of s i in
    let row = c.in-Some.row in
    let turn = row_turn s.units b.sheet.bytes l.yielded c.into_iter-row-iterator.result l.row-iterator c.next.new.self (search rules) (search rules) l.yielded_by _ row c.in-Some.is c.next.ensures.steps in
    let h : i < s.unit_count = omega (arith, turn.0, b.sheet.fits.units_length) in
    let own : sheet_in row ≡ s = ap (λ (b : Bor (List ℕ)). sheet_of b.now) turn.1 in
    let weight : c.weight.result ≡ weight_of b.rules by s u = c.weight.ensures ∙ ap₂ (weight_of b.rules by) own (turn.2 (unit_row [])) in
    let part : c.from-m.result ≡ bit (takes_part by u) = c.from-m.ensures ∙ byte_is_bit c.part.result ∙ ap bit (c.part.ensures ∙ ap (takes_part by) (turn.2 (unit_row []))) in (
      omega (arith, part, bit_le (takes_part by u), l.invariant.0, length-append l.yielded (row ∷ [])),
      turn-row (takes_part by) (weight_of b.rules by s) b.sheet.bytes.now l.out i l.m c.weight.result c.from-m.result h (omega (arith, h, b.sheet.fits.header.unit_count, l.invariant.0)) weight part l.invariant.1
          ∙ ap (λ (k : ℕ). chosen (takes_part by) (weight_of b.rules by s) (take k s.units)) (sym (length-append l.yielded _)),
    )

pub returns-clause-few : goal.returns-clause-few
returns-clause-few c =
    let l = c.loop-row in
    let sheet = c.args.basis.now.sheet in
    let end = row_end (sheet_of sheet.bytes.now).units sheet.bytes l.yielded c.into_iter-row-iterator.result l.row-iterator c.next.new.self (search rules) (search rules) l.yielded_by _ c.in-None.is c.next.ensures.steps in
    omega (arith, end, l.invariant.0, sheet.fits.units_length)

pub returns-clause-weights : goal.returns-clause-weights
unfolding weights_by
returns-clause-weights c =
    let b = c.args.basis.now in
    let s = sheet_of b.sheet.bytes.now in
    let l = c.loop-row in
    let end = row_end s.units b.sheet.bytes l.yielded c.into_iter-row-iterator.result l.row-iterator c.next.new.self (search rules) (search rules) l.yielded_by _ c.in-None.is c.next.ensures.steps in
    l.invariant.1 ∙ ap (chosen (takes_part c.args.by) (weight_of b.rules c.args.by s)) (take_all (length l.yielded) s.units (omega (arith, end)))

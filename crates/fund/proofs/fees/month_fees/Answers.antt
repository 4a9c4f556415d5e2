use mathlib.Core.Path.{◌≡◌, sym, ap, ap₂, ◌∙◌}
use mathlib.Core.List.{List, []}
use Prim.Native.Nat.{ℕ, ◌+◌}
use native.Mathlib.Omega.{arith}
use lib.ListN.{length, take, length-append}
use lib.Seq.{take_all}
use Rattle.std.proofs.Common.{Bor, rules}
use Rattle.sheet.specs.Layout.{unit_row, sheet_of}
use Rattle.sheet.specs.Inner.Fields.{unit_of}
use Rattle.sheet.proofs.RowViews.{row_turn, row_end}
use Rattle.sheet.proofs.Units.{units-next}
use Rattle.month.specs.Weights.{sum_of}
use Rattle.month.proofs.Lists.{sum-next}
use Rattle.fund.specs.Inner.Fees.{unit_fee}
use Rattle.fund.proofs.ByUnit.{fees-by_unit}
use Rattle.fund.proofs.fees.month_fees.Goals as goal

pub overflow_add-fees : goal.overflow_add-fees
overflow_add-fees c =
    let l = c.loop-row in
    let sheet = c.args.sheet in
    let turn = row_turn (sheet_of sheet.bytes.now).units sheet.bytes l.yielded c.into_iter-row-iterator.result l.row-iterator c.next.new.self (search rules) (search rules) l.yielded_by _ c.in-Some.row c.in-Some.is c.next.ensures.steps in
    omega (arith, l.invariant.1, c.unit_fee-fees.ensures.1, turn.0, sheet.fits.units_length, sheet.fits.header.unit_count)

pub loop-row-preserved : goal.loop-row-preserved
loop-row-preserved c =
    let l = c.loop-row in
    let i = length l.yielded in
    let sheet = c.args.sheet in
    let s = sheet_of sheet.bytes.now in
    let us = s.units in
    let turn = row_turn us sheet.bytes l.yielded c.into_iter-row-iterator.result l.row-iterator c.next.new.self (search rules) (search rules) l.yielded_by _ c.in-Some.row c.in-Some.is c.next.ensures.steps in
    let fee : c.unit_fee-fees.result ≡ unit_fee c.args.rate s (unit_of s i) = c.unit_fee-fees.ensures.0 ∙ ap₂ (unit_fee c.args.rate) (ap (λ (b : Bor (List ℕ)). sheet_of b.now) turn.1) (turn.2 (unit_row [])) in
    let next : sum_of (unit_fee c.args.rate s) (take (i + 1) us) ≡ l.fees + c.unit_fee-fees.result = ap (sum_of (unit_fee c.args.rate s)) (units-next sheet.bytes.now i (omega (arith, turn.0, sheet.fits.units_length))) ∙ sum-next _ (take i us) (unit_of s i) ∙ omega (arith, l.invariant.0, fee) in
    (sym next ∙ ap (λ (k : ℕ). sum_of (unit_fee c.args.rate s) (take k us)) (sym (length-append l.yielded _)), omega (arith, length-append l.yielded, c.unit_fee-fees.ensures.1, l.invariant.1))

pub returns : goal.returns
returns c =
    let l = c.loop-row in
    let sheet = c.args.sheet in
    let s = sheet_of sheet.bytes.now in
    let end = row_end s.units sheet.bytes l.yielded c.into_iter-row-iterator.result l.row-iterator c.next.new.self (search rules) (search rules) l.yielded_by _ c.in-None.is c.next.ensures.steps in
    l.invariant.0 ∙ ap (sum_of (unit_fee c.args.rate s)) (take_all (length l.yielded) s.units (omega (arith, end))) ∙ fees-by_unit c.args.rate s

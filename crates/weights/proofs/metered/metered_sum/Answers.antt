use mathlib.Core.Path.{◌≡◌, sym, ap, ◌∙◌}
use mathlib.Core.List.{[]}
use Prim.Native.Nat.{ℕ, ◌<◌}
use native.Mathlib.Omega.{arith}
use lib.ListN.{length, take, length-append}
use lib.Seq.{take_all}
use Rattle.std.proofs.Common.{rules}
use Rattle.sheet.specs.Layout.{UnitRow, unit_row, sheet_of}
use Rattle.sheet.specs.WattHours.{wh_in, amount_of}
use Rattle.sheet.proofs.RowViews.{row_turn, row_end}
use Rattle.month.specs.Weights.{sum_of, metered_sum}
use Rattle.weights.proofs.Tests.{amount_is, some_amount, some_of, readings_fit, reading_fits, next_sum, next_fits}
use Rattle.weights.proofs.metered.metered_sum.Goals as goal

pub returns-in_err-sum : goal.returns-in_err-sum
returns-in_err-sum c =
    let l = c.loop-row in
    let i = length l.yielded in
    let sheet = c.args.sheet in
    let fits = sheet.fits in
    let turn = row_turn (sheet_of sheet.bytes.now).units sheet.bytes l.yielded c.into_iter-row-iterator.result l.row-iterator c.next.new.self (search rules) (search rules) l.yielded_by _ c.in-Some.row c.in-Some.is c.next.ensures.steps in
    let h : i < (sheet_of sheet.bytes.now).unit_count = omega (arith, turn.0, fits.units_length) in
    let is = c.from.ensures ∙ c.field.ensures ∙ ap (λ (u : UnitRow). u.reading) (turn.2 (unit_row [])) in
    let reading = amount_is _ c.in_ok-reading.reading (reading_fits _ fits i h _ is) (sym c.of.ensures ∙ c.in_ok-reading.was) in
    absurd (some_amount _ (next_fits _ fits i h _ (reading ∙ is) _ l.invariant) (sym c.plus.ensures ∙ c.in_err-sum.was))

pub loop-row-preserved : goal.loop-row-preserved
loop-row-preserved c =
    let l = c.loop-row in
    let i = length l.yielded in
    let sheet = c.args.sheet in
    let fits = sheet.fits in
    let us = (sheet_of sheet.bytes.now).units in
    let turn = row_turn us sheet.bytes l.yielded c.into_iter-row-iterator.result l.row-iterator c.next.new.self (search rules) (search rules) l.yielded_by _ c.in-Some.row c.in-Some.is c.next.ensures.steps in
    let h : i < (sheet_of sheet.bytes.now).unit_count = omega (arith, turn.0, fits.units_length) in
    let is = c.from.ensures ∙ c.field.ensures ∙ ap (λ (u : UnitRow). u.reading) (turn.2 (unit_row [])) in
    let reading = amount_is _ c.in_ok-reading.reading (reading_fits _ fits i h _ is) (sym c.of.ensures ∙ c.in_ok-reading.was) in
    amount_is _ c.in_ok-sum.sum (next_fits _ fits i h _ (reading ∙ is) _ l.invariant) (sym c.plus.ensures ∙ c.in_ok-sum.was)
    ∙ next_sum _ fits i h _ (reading ∙ is) _ l.invariant
    ∙ ap (λ (k : ℕ). sum_of (λ u. u.reading) (take k us)) (sym (length-append l.yielded _))

pub returns : goal.returns
unfolding metered_sum
returns c =
    let l = c.loop-row in
    let sheet = c.args.sheet in
    let us = (sheet_of sheet.bytes.now).units in
    let end = row_end us sheet.bytes l.yielded c.into_iter-row-iterator.result l.row-iterator c.next.new.self (search rules) (search rules) l.yielded_by _ c.in-None.is c.next.ensures.steps in
    let all : wh_in l.sum ≡ sum_of (λ u. u.reading) us = l.invariant ∙ ap (sum_of (λ u. u.reading)) (take_all (length l.yielded) us (omega (arith, end))) in
    some_of l.sum (omega (arith, l.invariant, readings_fit sheet.bytes.now sheet.fits (length l.yielded))) ∙ ap amount_of all

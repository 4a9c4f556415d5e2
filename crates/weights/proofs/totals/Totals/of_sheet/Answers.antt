use mathlib.Core.Path.{◌≡◌, sym, ap, ap₂, subst, ◌∙◌}
use mathlib.Core.List.{List, []}
use Prim.Native.Nat.{ℕ, ◌+◌}
use native.Mathlib.Omega.{arith}
use lib.ListN.{length, take, length-take, length-append}
use lib.Seq.{take_all}
use Rattle.std.proofs.Common.{Bor, rules}
use Rattle.sheet.specs.Layout.{UnitRow, unit_row, sheet_of}
use Rattle.sheet.specs.Inner.Fields.{unit_of}
use Rattle.sheet.specs.Inner.Views.{sheet_in, unit_in}
use Rattle.sheet.specs.Inner.Fits.{Fits, UnitFits}
use Rattle.sheet.proofs.RowViews.{row_turn, row_end}
use Rattle.sheet.proofs.Units.{units-next}
use Rattle.month.proofs.Lists.{each_take}
use Rattle.weights.specs.declared.totals.Totals.{Totals}
use Rattle.weights.specs.Inner.Totals.{of_unit, plus_totals, Within}
use Rattle.weights.proofs.Sums.{Sums, sums_next, sums-within, totals_are}
use Rattle.weights.proofs.totals.Totals.of_sheet.Goals as goal

-- the sums of the first i units are small
prefix-within : (s : List ℕ) (i : ℕ) (t : Totals) → Fits 32 s → Sums (sheet_of s) (take i (sheet_of s).units) t → Within 160 t
prefix-within s i t f h =
    let us = (sheet_of s).units in
    sums-within (sheet_of s) (take i us) f.header.unmetered_factor_high (each_take (UnitFits (sheet_of s)) i us f.units)
    (omega (arith, length-take i us, f.units_length, f.header.unit_count)) t h

pub plus-t-requires : goal.plus-t-requires
plus-t-requires c = (prefix-within c.args.sheet.bytes.now (length c.loop-row.yielded) c.loop-row.t c.args.sheet.fits c.loop-row.invariant, c.of_row.ensures.1)

pub loop-row-preserved : goal.loop-row-preserved
loop-row-preserved c =
    let l = c.loop-row in
    let i = length l.yielded in
    let sheet = c.args.sheet in
    let s = sheet_of sheet.bytes.now in
    let us = s.units in
    let u = unit_of s i in
    let turn = row_turn us sheet.bytes l.yielded c.into_iter-row-iterator.result l.row-iterator c.next.new.self (search rules) (search rules) l.yielded_by _ c.in-Some.row c.in-Some.is c.next.ensures.steps in
    let row : of_unit (sheet_in c.in-Some.row) (unit_in c.in-Some.row) ≡ of_unit s u = ap₂ of_unit (ap (λ (b : Bor (List ℕ)). sheet_of b.now) turn.1) (turn.2 (unit_row [])) in
    let e : c.plus-t.result ≡ plus_totals l.t (of_unit s u) = c.plus-t.ensures ∙ ap (plus_totals l.t) (c.of_row.ensures.0 ∙ row) in
    subst (λ (k : ℕ). Sums s (take k us) c.plus-t.result) (sym (length-append l.yielded _))
    (subst (λ (t : Totals). Sums s (take (i + 1) us) t) (sym e)
    (subst (λ (vs : List UnitRow). Sums s vs (plus_totals l.t (of_unit s u))) (sym (units-next sheet.bytes.now i (omega (arith, turn.0, sheet.fits.units_length)))) (sums_next s (take i us) u l.t l.invariant)))

pub returns : goal.returns
returns c =
    let l = c.loop-row in
    let sheet = c.args.sheet in
    let s = sheet_of sheet.bytes.now in
    let end = row_end s.units sheet.bytes l.yielded c.into_iter-row-iterator.result l.row-iterator c.next.new.self (search rules) (search rules) l.yielded_by _ c.in-None.is c.next.ensures.steps in
    totals_are s l.t (subst (λ (vs : List UnitRow). Sums s vs l.t) (take_all (length l.yielded) s.units (omega (arith, end))) l.invariant)

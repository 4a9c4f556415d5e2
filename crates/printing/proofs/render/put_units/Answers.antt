-- Invariant: with the lines that are left the sink has taken all lines.
use mathlib.Core.Path.{◌≡◌, refl, sym, ap, subst, ◌∙◌}
use mathlib.Core.Logic.{inl, inr}
use mathlib.Core.List.{List, map}
use Prim.Native.Nat.{ℕ}
use native.Mathlib.Omega.{arith}
use lib.ListN.{length, length-append}
use Rattle.std.specs.Iterator.Adapters.{zip_first, zip_second}
use Rattle.std.specs.Slice.Iter.{chunks_exact_rest}
use Rattle.sheet.specs.Inner.Rows.{rows_left}
use Rattle.month.specs.Month.{month_of}
use Rattle.printing.specs.Text.{decimal, line}
use Rattle.printing.specs.Printed.{unit_lines}
use Rattle.printing.proofs.Lines.{lines_next, lines_none}
use Rattle.printing.proofs.render.put_units.Goals as goal

pub loop-row-init : goal.loop-row-init
unfolding month_of
loop-row-init g c = rw (c.into_iter-row-iterator.ensures.into_iter_gives, c.zip-row-items.ensures.first, c.zip-row-items.ensures.second, c.rows.ensures.units, c.chunks_exact.ensures.rest, c.chunks_exact.ensures.size)
    (record { size = refl; numbers = omega (arith, c.args.month.numbers, c.args.month.sheet.fits.units_length); room = c.requires; whole = λ end others. others })

pub put_unit-requires : goal.put_unit-requires
put_unit-requires g c =
    let h = c.in-Some.ensures.steps in
    let i = c.loop-row.invariant in
    let lines = lines_next _ _ _ _ c.in-Some.numbers.now _ h.0.0 h.1.1.0 (h.1.1.1 ∙ i.size) c.field.ensures in
    omega (arith, i.room, ap length lines, length-append (line (decimal c.field.result) (map decimal c.in-Some.numbers.now)) (unit_lines (map (λ u. u.id) (rows_left (zip_first c.next.new.self))) (chunks_exact_rest (zip_second c.next.new.self))))

pub loop-row-preserved : goal.loop-row-preserved
loop-row-preserved g c =
    let l = g.met.S.Sink.laws in
    let h = c.in-Some.ensures.steps in
    let i = c.loop-row.invariant in
    let first = line (decimal c.field.result) (map decimal c.in-Some.numbers.now) in
    let others = unit_lines (map (λ u. u.id) (rows_left (zip_first c.next.new.self))) (chunks_exact_rest (zip_second c.next.new.self)) in
    let lines = lines_next _ _ _ _ c.in-Some.numbers.now _ h.0.0 h.1.1.0 (h.1.1.1 ∙ i.size) c.field.ensures in
    record {
      size = h.1.0 ∙ i.size;
      numbers = omega (arith, i.numbers, i.size, ap length h.0.0, ap length h.1.1.0, h.1.1.1, length-append c.in-Some.numbers.now (chunks_exact_rest (zip_second c.next.new.self)));
      room = omega (arith, i.room, ap length lines, length-append first others, l.room c.loop-row.sink c.put_unit.new.sink first c.put_unit.ensures);
      whole = λ end taken. i.whole end (subst (λ (t : List ℕ). g.S.Sink.took c.loop-row.sink t end) (sym lines) (l.both c.loop-row.sink c.put_unit.new.sink end first others c.put_unit.ensures taken));
    }

pub returns : goal.returns
returns g c =
    let l = g.met.S.Sink.laws in
    let i = c.loop-row.invariant in
    let none : length (rows_left (zip_first c.loop-row.row-iterator)) ≡ 0 = elim c.in-None.ensures.steps [
      | inl h ↦ ap length h.1.0
      | inr h ↦ omega (arith, i.numbers, i.size, h.1.1.0)
    ] in
    i.whole _ (subst (λ (t : List ℕ). g.S.Sink.took c.loop-row.sink t c.loop-row.sink) (sym (lines_none _ _ none)) (l.none c.loop-row.sink))

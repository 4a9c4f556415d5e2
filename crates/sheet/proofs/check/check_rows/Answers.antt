use mathlib.Core.Path.{◌≡◌, refl, sym, ap, ◌∙◌}
use native.Mathlib.Omega.{arith}
use Rattle.sheet.specs.declared.refusal.Refusal.{Refusal}
use Rattle.std.specs.Prelude.{Err}
use Rattle.sheet.specs.Layout.{sheet_of}
use Rattle.sheet.specs.declared.ranges.Range.{Range}
use Rattle.sheet.specs.Check.{◌within◌, passes}
use Rattle.sheet.specs.Inner.FieldRanges.{refusal_by}
use Rattle.sheet.specs.Inner.Fields.{row_field, unit_of}
use Rattle.sheet.proofs.Walk.{row_field_at, range_in_table, row_opens, field-more, field_fault, order_fault, rows_more, rows_end}
use Rattle.sheet.proofs.check.check_rows.Goals as goal

pub rows-init : goal.rows-init
rows-init c = (refl, refl)

pub row_ranges-allowed-requires : goal.row_ranges-allowed-requires
row_ranges-allowed-requires c = (omega arith, omega arith, c.row_limits-limits.ensures)

pub loop-k-init : goal.loop-k-init
loop-k-init c = (c.rows.invariant.0, sym (row_opens c.args.s.now c.rows.i (omega arith)) ∙ c.rows.invariant.1)

pub loop-k-preserved : goal.loop-k-preserved
loop-k-preserved c =
    let pass = sym c.contains.ensures ∙ c.if-not-contains.false in
    let e : c.unit_field-x.result ≡ row_field (unit_of (sheet_of c.args.s.now) c.rows.i) (row_field_at c.loop-k.k) = c.unit_field-x.ensures in
    (c.loop-k.invariant.0, field-more c.args.s.now c.rows.i _ c.loop-k.k _ c.row_ranges-allowed.ensures e (omega arith) pass ∙ c.loop-k.invariant.1)

pub rows-preserved : goal.rows-preserved
rows-preserved c =
    let ordered = sym c.not_above.ensures ∙ c.if-not_above.false in
    (c.loop-k.invariant.0, rows_more c.args.s.now c.rows.i (omega arith) c.loop-k.k (omega arith) ordered ∙ c.loop-k.invariant.1)

pub returns-after-rows : goal.returns-after-rows
returns-after-rows c = c.rows.invariant.0 ∙ sym (rows_end c.args.s.now c.rows.i (omega arith)) ∙ c.rows.invariant.1

pub returns-then-not-contains : goal.returns-then-not-contains
returns-then-not-contains c =
    let fault = sym c.contains.ensures ∙ c.if-not-contains.true in
    let e : c.unit_field-x.result ≡ row_field (unit_of (sheet_of c.args.s.now) c.rows.i) (row_field_at c.loop-k.k) = c.unit_field-x.ensures in
    ap (λ (r : Refusal). Err r) (c.field_refusal.ensures ∙ ap (λ (r : Range). refusal_by (passes (c.unit_field-x.result within r)) c.rows.i) (range_in_table c.loop-k.k))
    ∙ sym (field_fault c.args.s.now c.rows.i _ c.loop-k.k _ c.row_ranges-allowed.ensures e (omega arith) fault)
    ∙ c.loop-k.invariant.1

pub returns-then-not_above : goal.returns-then-not_above
returns-then-not_above c =
    let disorder = sym c.not_above.ensures ∙ c.if-not_above.true in
    sym (order_fault c.args.s.now c.rows.i (omega arith) c.loop-k.k (omega arith) disorder) ∙ c.loop-k.invariant.1

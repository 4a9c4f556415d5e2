use mathlib.Core.Path.{sym, ap, ◌∙◌}
use mathlib.Core.List.{map}
use native.Mathlib.Omega.{arith}
use lib.Seq.{get_or-set_same, get_or-set_other, ext_get_or}
use Rattle.std.proofs.Common.{below_more}
use Rattle.sheet.specs.Layout.{UnitRow, sheet_of}
use Rattle.sheet.proofs.Units.{ids-count, id-at}
use Rattle.yearbook.proofs.opening.write_ids.Goals as goal

pub loop-i-preserved : goal.loop-i-preserved
loop-i-preserved c =
    let i = c.loop-i.i in let ids = c.loop-i.ids in
    below_more _ _
    (λ k h. get_or-set_other ids i k _ 0 (omega arith) ∙ c.loop-i.invariant k h)
    (get_or-set_same ids i _ 0 (omega arith) ∙ c.field.ensures ∙ ap (λ (u : UnitRow). u.id) c.row.ensures.unit ∙ sym (id-at (sheet_of c.args.sheet.bytes.now) i))

pub returns : goal.returns
returns c =
    let bytes = c.args.sheet.bytes.now in
    ext_get_or 0 c.loop-i.ids (map (λ u. u.id) (sheet_of bytes).units) (omega (arith, ids-count bytes)) (λ k h. c.loop-i.invariant k (omega arith))

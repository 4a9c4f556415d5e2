use mathlib.Core.Path.{sym, ap, ◌∙◌}
use Prim.Native.Nat.{◌+◌, ◌*◌}
use native.Mathlib.Omega.{arith}
use borrow.Author.Tests.{le-leb}
use lib.ListN.{length, get_or}
use Rattle.sheet.specs.Layout.{UnitRow}
use Rattle.sheet.specs.Inner.Fields.{row_fields}
use Rattle.sheet.proofs.Units.{unit-at}
use Rattle.sheet.proofs.rows.numbered_field.Goals as goal

pub returns : goal.returns
returns c =
    let a = c.args in
    let inside = le-leb (48 + 32 * a.i + 32) (length a.s.now) (omega arith) in
    c.row_field.ensures ∙ rw inside (sym (ap (λ (u : UnitRow). get_or (row_fields u) a.k 0) (unit-at _ a.i (omega arith))))

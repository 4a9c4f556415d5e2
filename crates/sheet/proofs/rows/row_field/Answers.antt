use mathlib.Core.Path.{◌≡◌, sym, ap, ◌∙◌}
use mathlib.Core.List.{map}
use native.Mathlib.Omega.{arith}
use Prim.Native.Nat.{◌+◌}
use lib.ListN.{length, get_or-map}
use borrow.Author.Tests.{le-leb}
use Rattle.std.specs.Prelude.{Some, slice_get}
use Rattle.std.proofs.Common.{rules}
use Rattle.std.proofs.lemmas.Option.{get_or_from_slice_get, slice_get_within}
use Rattle.sheet.specs.declared.rows.Field.TheVariants.{Id}
use Rattle.sheet.specs.declared.rows.TheConstants.{FIELDS}
use Rattle.sheet.specs.Inner.Fields.{row_field, unit_row_at}
use Rattle.sheet.proofs.Walk.{any_default}
use Rattle.sheet.proofs.rows.row_field.Goals as goal

pub returns : goal.returns
returns c =
    let a = c.args in
    let inside = le-leb (a.at + 32) (length a.s.now) (omega arith) in
    let found : slice_get FIELDS a.k ≡ Some c.in-Some.field-0.now = search rules in
    let of_row = row_field (unit_row_at a.s.now a.at) in
    rw inside (c.field_at.ensures ∙ ap of_row (sym (get_or_from_slice_get FIELDS a.k c.in-Some.field-0.now Id found)) ∙ sym (get_or-map of_row FIELDS a.k Id) ∙ any_default (map of_row FIELDS) a.k (of_row Id) 0 (slice_get_within FIELDS a.k _ found))

use mathlib.Core.Path.{ap, ◌∙◌}
use mathlib.Core.List.{List}
use Prim.Native.Nat.{ℕ}
use native.Mathlib.Omega.{arith}
use Rattle.sheet.specs.Layout.{sheet_of}
use Rattle.sheet.specs.Inner.Fields.{header_field}
use Rattle.group.proofs.Parts.{one_written, all_written}
use Rattle.group.proofs.buildings.PassedGroup.fields.Goals as goal

pub loop-i-preserved : goal.loop-i-preserved
loop-i-preserved c =
    let g = c.args.self.group in
    let l = c.loop-i in
    one_written g.sheets.now g.buildings.now (λ s. header_field s c.args.field) l.out l.i c.from.result (omega arith) (omega arith)
    (c.from.ensures ∙ c.header.ensures ∙ ap (λ (bytes : List ℕ). header_field (sheet_of bytes) c.args.field) c.sheet.ensures) l.invariant

pub returns : goal.returns
returns c =
    let g = c.args.self.group in
    let l = c.loop-i in
    all_written g.sheets.now g.buildings.now (λ s. header_field s c.args.field) l.out l.i (omega arith) (omega arith) l.invariant

use mathlib.Core.Path.{refl, sym, ap, ◌∙◌}
use mathlib.Core.List.{List, [], ◌∷◌, ◌++◌}
use Prim.Native.Nat.{ℕ}
use native.Mathlib.Omega.{arith}
use lib.ListN.{get_or}
use lib.Seq.{take_all}
use Rattle.std.proofs.lemmas.List.{take_more, take_more_set}
use Rattle.archive.proofs.writer.put_bytes.Goals as goal

pub loop-i-init : goal.loop-i-init
loop-i-init c = refl

pub loop-i-preserved : goal.loop-i-preserved
loop-i-preserved c =
    let l = c.loop-i in
    let byte = get_or c.args.bytes.now l.i 0 in
    take_more_set l.to l.i byte (omega arith) ∙ ap (λ (xs : List ℕ). xs ++ (byte ∷ [])) l.invariant ∙ sym (take_more c.args.bytes.now l.i 0 (omega arith))

pub returns : goal.returns
returns c =
    let l = c.loop-i in
    sym (take_all l.i l.to (omega arith)) ∙ l.invariant ∙ take_all l.i c.args.bytes.now (omega arith)

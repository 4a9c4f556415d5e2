-- Invariant: the first i numbers stand in the first 4 i bytes.
use Rattle.std.proofs.Common.{rules}
use mathlib.Core.Path.{refl, ap, ◌∙◌}
use Prim.Native.Nat.{◌+◌, ◌-◌, ◌*◌}
use native.Mathlib.Omega.{arith}
use native.Mathlib.Numerals.{add-one}
use lib.ListN.{length}
use lib.Seq.{take-suc}
use Rattle.std.proofs.lemmas.Slice.{take-put_mid}
use Rattle.sheet.specs.Layout.{in_bytes}
use Rattle.archive.proofs.Bytes.{bytes_append}
use Rattle.archive.proofs.writer.put_numbers.Goals as goal

pub loop-i-init : goal.loop-i-init
unfolding in_bytes
loop-i-init c = record { long = c.requires; written = refl }

pub loop-i-preserved : goal.loop-i-preserved
unfolding in_bytes
loop-i-preserved c =
    let l = c.loop-i in
    let four = c.copy_from_slice in
    let numbers = c.args.numbers.now in
    record {
      long = search rules;
      written =
          take-put_mid (4 * l.i) (4 * l.i + 4 - 4 * l.i) l.to four.new.self (4 * (l.i + 1)) (omega (arith, ap length four.ensures.after)) (omega arith)
          ∙ rw (l.invariant.written, four.ensures.after, c.to_le_bytes.ensures, add-one, take-suc numbers l.i 0 c.loop-i-test.true, bytes_append);
    }

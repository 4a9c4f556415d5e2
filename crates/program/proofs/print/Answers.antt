-- The front of the array is the text.
use Rattle.std.proofs.Common.{◌≡◌, ℕ, ◌≤◌, List, length, take}
use mathlib.Core.Path.{sym, ap, ap₂, ◌∙◌}
use native.Mathlib.Omega.{arith}
use lib.ListN.{replicate, length-replicate}
use Rattle.printing.specs.Printed.{printed, at_front}
use Rattle.printing.proofs.Answers.{room_for_all, front-is}
use Rattle.program.proofs.print.Goals as goal

text-is : (sheet text : List ℕ) (n : ℕ) → n ≡ length (printed sheet) → n ≤ 15889 → text ≡ at_front (printed sheet) (replicate 15889 0) → take n text ≡ printed sheet
text-is sheet text n is-length fits is-front =
    ap₂ (λ (k : ℕ) (l : List ℕ). take k l) is-length is-front
    ∙ front-is (printed sheet) (replicate 15889 0) (omega (arith, fits, is-length, length-replicate {A = ℕ} 15889 0))

pub slice_bounds-text-end : goal.slice_bounds-text-end
slice_bounds-text-end g c = omega (arith, c.print-n.ensures.value, room_for_all c.args.sheet.now, c.print-n.auto)

pub write_text-requires : goal.write_text-requires
write_text-requires g c =
    let p = c.print-n in
    let s = c.args.sheet.now in
    text-is s p.new.text p.result p.ensures.value.0 (omega (arith, p.ensures.value, room_for_all s)) p.ensures.text_after

pub slice_bounds-write_text-end : goal.slice_bounds-write_text-end
slice_bounds-write_text-end g c = c.print-n.ensures.value.0 ∙ sym (ap length (write_text-requires g c))

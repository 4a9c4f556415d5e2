-- Invariant: with the numbers that are left the sink has taken the line.
use mathlib.Core.Path.{sym, ap, subst}
use mathlib.Core.List.{List, ◌++◌, map}
use Prim.Native.Nat.{ℕ, ◌+◌}
use native.Mathlib.Omega.{arith}
use lib.ListN.{length, get_or, length-append, drop}
use Rattle.printing.specs.Text.{ascii, decimal, further}
use Rattle.printing.proofs.Lines.{further-next}
use Rattle.printing.proofs.render.put_unit.Goals as goal

pub loop-number-preserved : goal.loop-number-preserved
loop-number-preserved g c =
    let l = g.met.S.Sink.laws in
    let i = c.loop-number in
    let numbers = c.args.numbers.now in
    let rest = further (map decimal (drop (i.number-index + 1) numbers)) in
    let next = further-next numbers i.number-index c.loop-number-test.true in
    let taken = subst (λ (x : ℕ). g.S.Sink.took i.sink (ascii " " ++ decimal x) c.put_labelled.new.sink) c.from-in-loop-number.ensures c.put_labelled.ensures in
    record {
      room = omega (arith, i.invariant.room, ap length next, length-append (ascii " " ++ decimal (get_or numbers i.number-index 0)) rest, l.room _ _ _ taken);
      whole = λ end others. i.invariant.whole end (subst (λ (t : List ℕ). g.S.Sink.took i.sink t end) (sym next) (l.both _ _ _ _ _ taken others));
    }

-- The word over the list's free part.
use mathlib.Core.Path.{refl}
use native.Mathlib.Omega.{arith}
use Rattle.printing.proofs.Placing.{copy_placed}
use Rattle.printing.proofs.sink.WriterSink.put.Goals as goal

pub returns : goal.returns
returns c = record {
  same-list = refl;
  placed = rw c.copy_from_slice.ensures.after (copy_placed c.args.word.now c.args.self.now.text.now c.args.self.now.at _ (omega arith) (omega (arith, c.requires, c.args.self.now.inside)));
}

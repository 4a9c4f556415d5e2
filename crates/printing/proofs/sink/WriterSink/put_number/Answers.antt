-- The digits of `io::decimal`, copied.
use mathlib.Core.Path.{◌≡◌, sym, ap, subst, ◌∙◌}
use mathlib.Core.List.{List}
use Prim.Native.Nat.{ℕ}
use native.Mathlib.Omega.{arith}
use lib.ListN.{length, take}
use Rattle.printing.specs.Text.{decimal}
use Rattle.printing.specs.Inner.Writers.{Wrote}
use Rattle.printing.proofs.Decimals.{spelled}
use Rattle.printing.proofs.sink.WriterSink.put_number.Goals as goal
use Rattle.printing.proofs.sink.WriterSink.put_number.Goals.{After-decimal-k}

digits_are : (c : After-decimal-k) → take c.decimal-k.result c.decimal-k.new.out ≡ decimal c.args.x
digits_are c = let d = c.decimal-k in d.ensures.digits ∙ sym (spelled d.result c.args.x d.ensures.len (omega arith))

pub put-requires : goal.put-requires
put-requires c = omega (arith, c.requires, ap length (digits_are (goal.at.put-requires c).After-decimal-k))

pub returns : goal.returns
returns c = subst (λ (t : List ℕ). Wrote c.args.self.now t c.put.new.self) (digits_are (goal.at.returns c).After-decimal-k) c.put.ensures

-- A counter as a sink.
use Rattle.std.specs.Prelude.{◌≡◌, List, ℕ, ◌+◌, ◌-◌, length}
use Rattle.std.proofs.Common.{arith, length-append}
use Rattle.printing.specs.Inner.Sinks.{SinkLaws}
use Rattle.printing.specs.declared.sink.Counter.{Counter}

-- up to the highest length
abbrev pub counter_left : Counter → ℕ
counter_left s = 18446744073709551615 - s.len

abbrev pub Counted : Counter → List ℕ → Counter → Type 0
Counted s text t = t.len ≡ s.len + length text

pub counter_laws : SinkLaws counter_left Counted
counter_laws = record {
  none = λ s. omega arith;
  both = λ s t u x y p q. omega (arith, length-append x y);
  room = λ s t x p h. omega arith;
}

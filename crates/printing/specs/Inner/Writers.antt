-- A writer as a sink.
use mathlib.Core.Path.{sym, ap, ◌∙◌}
use mathlib.Core.List.{append_assoc, append-nil}
use Rattle.std.specs.Prelude.{◌≡◌, refl, List, [], ◌++◌, ℕ, ◌+◌, ◌-◌, ◌≤◌, length, take, drop}
use native.Mathlib.Omega.{arith}
use lib.ListN.{length-append, length-drop, take-append-drop}
use lib.Seq.{drop-drop, length-take-le}
use Rattle.printing.specs.Inner.Sinks.{SinkLaws}
use Rattle.printing.specs.Inner.Placed.{Placed}
use Rattle.printing.specs.declared.sink.Writer.{Writer}

-- two lists that are the same from `mid` on are so from `end` on
same_rest : (a b : List ℕ) (mid end k : ℕ) → end ≡ mid + k → drop mid b ≡ drop mid a → drop end b ≡ drop end a
same_rest a b mid end k e h =
    ap (λ (k : ℕ). drop k b) e ∙ sym (drop-drop k mid b) ∙ ap (drop k) h ∙ drop-drop k mid a ∙ ap (λ (k : ℕ). drop k a) (sym e)

pub then_placed : {x y a b c : List ℕ} {at mid end : ℕ} → Placed x a at b mid → Placed y b mid c end → Placed (x ++ y) a at c end
then_placed {x} {y} {a} {b} {c} {at} {mid} {end} p q =
    record {
      ends = omega (arith, p.ends, q.ends, length-append x y);
      front = q.front ∙ ap (λ (l : List ℕ). l ++ y) p.front ∙ append_assoc (take at a) x y;
      rest = q.rest ∙ same_rest a b mid end (length y) q.ends p.rest;
    }

pub nothing_placed : (list : List ℕ) (at : ℕ) → Placed [] list at list at
nothing_placed list at = record { ends = omega arith; front = sym (append-nil (take at list)); rest = refl }

-- within the list
pub placed-length : {text a b : List ℕ} {at end : ℕ} → Placed text a at b end → at + length text ≤ length a → length b ≡ length a
placed-length {text} {a} {b} {at} {end} p h =
    let split = ap length (take-append-drop end b) in
    omega (arith, split, length-append (take end b) (drop end b), ap length p.front, length-append (take at a) text, length-take-le at a (omega arith), ap length p.rest, length-drop end a, p.ends)

abbrev pub writer_left : Writer → ℕ
writer_left s = length s.text.now - s.at

-- into the same list
pub record Wrote (s : Writer) (text : List ℕ) (t : Writer) : Type 0 where
  pub same-list : t.text.ghost_name ≡ s.text.ghost_name
  pub placed : Placed text s.text.now s.at t.text.now t.at

pub writer_laws : SinkLaws writer_left Wrote
writer_laws = record {
  none = λ s. record { same-list = refl; placed = nothing_placed s.text.now s.at };
  both = λ s t u x y p q. record { same-list = q.same-list ∙ p.same-list; placed = then_placed p.placed q.placed };
  room = λ s t x p h. omega (arith, p.placed.ends, placed-length p.placed (omega (arith, s.inside)), s.inside);
}

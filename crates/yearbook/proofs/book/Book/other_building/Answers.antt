use mathlib.Core.Path.{◌≡◌, sym, ap, ◌∙◌}
use mathlib.Core.Bool.{not}
use native.Mathlib.Omega.{arith}
use Prim.Native.Nat.{◌+◌, ◌-◌}
use borrow.Author.Tests.{ne_eqb}
use Rattle.yearbook.proofs.Building.{other_count, by-ids}
use Rattle.yearbook.proofs.book.Book.other_building.Goals as goal

pub returns-then-unit_count-n : goal.returns-then-unit_count-n
returns-then-unit_count-n c =
    rw (ne_eqb _ _ c.if-unit_count-n.true) (sym (other_count _ _ (λ e. c.if-unit_count-n.true (c.unit_count.ensures.0 ∙ e ∙ sym c.unit_count-n.ensures.0))))

pub returns-else-unit_count-n : goal.returns-else-unit_count-n
returns-else-unit_count-n c =
    let n = c.unit_count-n in
    let size : 37 + n.result - 37 ≡ n.result = omega arith in
    ap not (rw size at c.same_ids.ensures) ∙ rw n.ensures.0 (sym (by-ids _ _ (sym c.unit_count.ensures.0 ∙ c.if-unit_count-n.false ∙ n.ensures.0)))

use mathlib.Core.Path.{◌≡◌, ◌∙◌}
use native.Mathlib.Omega.{arith}
use Prim.Native.Nat.{◌+◌, ◌*◌, ◌-◌}
use Rattle.yearbook.specs.LentBook.{sums_at}
use Rattle.yearbook.proofs.Sums.{eight-part}
use Rattle.yearbook.proofs.totals.unit_sums.Goals as goal

pub returns : goal.returns
unfolding sums_at
returns c =
    let size : 8 * c.args.place + 8 - 8 * c.args.place ≡ 8 = omega arith in
    c.copy_from_slice.ensures.after ∙ rw size (eight-part c.args.sums.now (8 * c.args.place) (omega arith))

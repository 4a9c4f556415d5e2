use mathlib.Core.Path.{◌≡◌}
use native.Mathlib.Omega.{arith}
use Prim.Native.Nat.{◌+◌, ◌*◌, ◌-◌}
use Rattle.yearbook.proofs.book.Book.block.Goals as goal

pub returns : goal.returns
returns c = let size : 197 + 1280 * c.args.at.place + 1280 - (197 + 1280 * c.args.at.place) ≡ 1280 = omega arith in rw size

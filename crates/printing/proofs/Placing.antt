-- A text copied into a list. Assumes nothing.
use mathlib.Core.Path.{◌≡◌, refl, sym}
use mathlib.Core.List.{List}
use Prim.Native.Nat.{ℕ, ◌+◌, ◌≤◌}
use native.Mathlib.Omega.{arith}
use lib.ListN.{length}
use borrow.Rule.Slice.PartMut.{put_mid}
use Rattle.std.proofs.lemmas.Slice.{take-put_mid, drop-put_mid}
use Rattle.printing.specs.Inner.Placed.{Placed}

-- a copy over a part of the list
pub copy_placed : (from list : List ℕ) (at k : ℕ) → k ≡ length from → at + length from ≤ length list → Placed from list at (put_mid at k list from) (at + length from)
copy_placed from list at k e h = record {
  ends = refl;
  front = take-put_mid at k list from (at + length from) refl (omega arith);
  rest = drop-put_mid at k list from (at + length from) (omega arith) (omega arith) (sym e);
}

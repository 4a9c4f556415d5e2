use mathlib.Core.Path.{◌≡◌}
use mathlib.Core.List.{map}
use Prim.Native.Nat.{ℕ, ◌<◌}
use lib.ListN.{get_or}
use Rattle.sheet.specs.Layout.{sheet_of}
use Rattle.yearbook.proofs.opening.write_ids.Given as goal

abbrev pub invariant-loop-i : goal.invariant-loop-i
invariant-loop-i l = (k : ℕ) → k < l.i → get_or l.ids k 0 ≡ get_or (map (λ u. u.id) (sheet_of l.sheet.bytes.now).units) k 0

use mathlib.Core.Path.{◌≡◌}
use native.Mathlib.Omega.{arith}
use Prim.Native.Nat.{ℕ}
use borrow.Author.Tests.{ltb-true}
use lib.ListN.{get_or}
use lib.Bits.{bit_or}
use Rattle.std.specs.List.{zip}
use Rattle.std.proofs.Common.{rules}
use Rattle.std.proofs.lemmas.Slice.Zip.{length-zip, get_or-zip}
use Rattle.std.proofs.lemmas.Iterator.{YieldsList-from_slice, YieldsList-from_zip}
use Rattle.std.proofs.lemmas.Iterator.Consumers.{fold_from_yields_List}
use Rattle.year_sums.proofs.Updating.{difference, far-one, bits_gathered}
use Rattle.year_sums.proofs.list.far_from_ends.Goals as goal

pub returns : goal.returns
returns c = λ e k h.
    let sums = c.args.sums.now in let old = c.args.old.now in
    let all = fold_from_yields_List _ (λ (b : ℕ) (p : ℕ × ℕ). bit_or b (difference p)) 0 c.fold-bits.result c.fold-bits.ensures.ran
    (YieldsList-from_zip (YieldsList-from_slice sums cc) (YieldsList-from_slice old cc)) (λ a x b q k. search rules) in
    let at : get_or (zip sums old) k (0, 0) ≡ (get_or sums k 0, get_or old k 0) = get_or-zip sums old k (0, 0) h (omega arith) in
    let one = bits_gathered difference 0 (zip sums old) k (0, 0) (omega (arith, length-zip sums old)) in
    far-one (get_or sums k 0) (get_or old k 0) (omega (arith, c.type_inv.sums k)) (omega (arith, c.type_inv.old k))
    (omega (arith, rw at at one, all, ltb-true c.fold-bits.result 9223372036854775808 e))

-- `same_statement` meets its contract: four bytes and a number at a time.
use mathlib.Core.Path.{◌≡◌, refl, sym, ap, ◌∙◌}
use mathlib.Core.Bool.{Bool, ◌&&◌}
use mathlib.Core.List.{List, [], ◌∷◌}
use Prim.Native.Nat.{ℕ, ◌*◌, ◌/◌}
use native.Mathlib.Omega.{arith}
use lib.ListN.{length, take, drop, length-take, length-drop, take-append-drop}
use Rattle.std.specs.List.{list_all, zip}
use Rattle.std.specs.Simd.{first_chunks}
use Rattle.std.proofs.Common.{rules}
use Rattle.std.proofs.lemmas.Iterator.{YieldsList-from_slice, YieldsList-from_zip}
use Rattle.std.proofs.lemmas.Iterator.Search.{all_from_yields_List}
use Rattle.sheet.specs.Layout.{bytes32, in_bytes}
use Rattle.sheet.specs.Check.{same_list}
use Rattle.sheet.proofs.Passed.{same_pointwise}
use Rattle.archive.proofs.Bytes.{same_behind}
use Rattle.archive.proofs.reader.same_statement.Goals as goal

abbrev same_four : List ℕ × ℕ → Bool
same_four p = same_list p.0 (bytes32 p.1)

by_fours : (bytes numbers : List ℕ) → length bytes ≡ 4 * length numbers → list_all same_four (zip (first_chunks 4 (length numbers) bytes) numbers) ≡ same_list bytes (in_bytes numbers)
unfolding in_bytes
by_fours [] [] h = refl
by_fours (b ∷ bytes) [] h = absurd (omega arith)
by_fours bytes (n ∷ numbers) h =
    ap (λ (t : Bool). same_four (take 4 bytes, n) && t) (by_fours (drop 4 bytes) numbers (simp length-drop (omega arith)))
    ∙ sym (same_behind (take 4 bytes) (bytes32 n) (drop 4 bytes) (in_bytes numbers) (simp length-take (omega arith)))
    ∙ ap (λ (xs : List ℕ). same_list xs (in_bytes (n ∷ numbers))) (take-append-drop 4 bytes)

all_fours : (bytes numbers : List ℕ) → length bytes ≡ 4 * length numbers → list_all same_four (zip (first_chunks 4 (length bytes / 4) bytes) numbers) ≡ same_list bytes (in_bytes numbers)
all_fours bytes numbers h = let count : length bytes / 4 ≡ length numbers = omega arith in rw count (by_fours bytes numbers h)

pub returns : goal.returns
returns c =
    all_from_yields_List same_four c.all.new.self _ _ c.all.ensures.ran
    (YieldsList-from_zip (YieldsList-from_slice (first_chunks 4 (length c.args.bytes.now / 4) c.args.bytes.now) cc) (YieldsList-from_slice c.args.numbers.now cc))
    (λ x b q k. search (rules, same_pointwise))
    ∙ all_fours c.args.bytes.now c.args.numbers.now c.requires

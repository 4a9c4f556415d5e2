-- Bytes compared, and numbers in bytes. Assumes nothing.
use mathlib.Core.Path.{◌≡◌, refl, ap, ap₂}
use mathlib.Core.Bool.{Bool, true, false, ◌&&◌}
use mathlib.Core.List.{List, [], ◌∷◌, ◌++◌}
use Prim.Native.Nat.{ℕ, ◌*◌}
use native.Mathlib.Omega.{arith}
use lib.Dec.{eqb}
use lib.ListN.{length}
use borrow.Author.Tests.{eq-eqb, eqb-true}
use Rattle.sheet.specs.Layout.{bytes32, in_bytes}
use Rattle.sheet.specs.Check.{same_list}
use Rattle.sheet.proofs.Passed.{and_true}

-- ---- bytes compared
pub same_itself : (xs : List ℕ) → same_list xs xs ≡ true
same_itself [] = refl
same_itself (x ∷ xs) = rw (eq-eqb x x refl) (same_itself xs)

pub same_equal : (xs ys : List ℕ) → same_list xs ys ≡ true → xs ≡ ys
same_equal [] [] e = refl
same_equal [] (y ∷ ys) e = absurd (let z : ◌≡◌ {A = ℕ} 0 1 = cc in omega arith)
same_equal (x ∷ xs) [] e = absurd (let z : ◌≡◌ {A = ℕ} 0 1 = cc in omega arith)
same_equal (x ∷ xs) (y ∷ ys) e =
    let both = and_true (eqb x y) (same_list xs ys) e in
    ap₂ (λ (n : ℕ) (ns : List ℕ). n ∷ ns) (eqb-true x y both.0) (same_equal xs ys both.1)

pub refuted : (t : Bool) → (t ≡ true → ⊥) → t ≡ false
refuted true h = absurd (h refl)
refuted false h = refl

and_thrice : (a b c : Bool) → (a && (b && c)) ≡ ((a && b) && c)
and_thrice true b c = refl
and_thrice false b c = refl

-- a front of one length in each decides, else what is behind it
pub same_behind : (xs ys us vs : List ℕ) → length xs ≡ length ys → same_list (xs ++ us) (ys ++ vs) ≡ (same_list xs ys && same_list us vs)
same_behind [] [] us vs h = refl
same_behind [] (y ∷ ys) us vs h = absurd (omega arith)
same_behind (x ∷ xs) [] us vs h = absurd (omega arith)
same_behind (x ∷ xs) (y ∷ ys) us vs h = rw (same_behind xs ys us vs (omega arith)) (and_thrice (eqb x y) (same_list xs ys) (same_list us vs))

-- ---- numbers in bytes
pub bytes-length : (xs : List ℕ) → length (in_bytes xs) ≡ 4 * length xs
unfolding in_bytes
bytes-length [] = refl
bytes-length (x ∷ xs) = omega (arith, bytes-length xs)

pub bytes_append : (xs ys : List ℕ) → in_bytes (xs ++ ys) ≡ in_bytes xs ++ in_bytes ys
unfolding in_bytes
bytes_append [] ys = refl
bytes_append (x ∷ xs) ys = ap (λ (r : List ℕ). bytes32 x ++ r) (bytes_append xs ys)

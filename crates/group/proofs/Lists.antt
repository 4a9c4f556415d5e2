-- Lists side by side, and lists joined. Assumes nothing.
use mathlib.Core.Path.{◌≡◌, refl, ap, ◌∙◌}
use mathlib.Core.Bool.{Bool, not, ◌||◌}
use mathlib.Core.List.{List, [], ◌∷◌, ◌++◌, map, zip_with}
use Prim.Native.Nat.{ℕ, zero, suc, ◌+◌, ◌*◌, ◌≤◌, ◌<◌}
use native.Mathlib.Omega.{arith}
use lib.ListN.{length, get_or, take, length-append, get_or-append}
use lib.Seq.{get_or-append-add}
use borrow.Author.Tests.{eq-eqb}
use lib.Dec.{eqb}
use lib.IntN.{ℤ}
use mir.Syntax.{w64}
use mir.Val.{SFits, of_z, to_z}
use Rattle.std.proofs.lemmas.Int.{to_z-of_z}
use Rattle.std.specs.List as std
use Rattle.apportion.specs.Shares.{sum}
use Rattle.sheet.specs.Tests.{any}
use Rattle.month.specs.Fraction.{Fraction}
use Rattle.month.specs.Laws.{sum_to}
use Rattle.month.proofs.Nearness.{NearAll}
use Rattle.month.proofs.Lists.{sum_append, near_tail, near_cons, sum_to_cong, sum-by-fours}
use Rattle.group.specs.Group.{joined}
use Rattle.group.specs.Answer.{differs}

-- ---- any of the pairs of two lists, as std has it
pub any_is : (test : ℕ → ℕ → Bool) (xs ys : List ℕ) → std.list_any (λ p. test p.0 p.1) (std.zip xs ys) ≡ any (zip_with test xs ys)
unfolding any zip_with
any_is test [] ys = refl
any_is test (x ∷ xs) [] = refl
any_is test (x ∷ xs) (y ∷ ys) = ap (λ (t : Bool). test x y || t) (any_is test xs ys)

pub any_of : {A : Type 0} (test : A → Bool) (xs : List A) → std.list_any test xs ≡ any (map test xs)
unfolding any
any_of test [] = refl
any_of test (x ∷ xs) = ap (λ (t : Bool). test x || t) (any_of test xs)

pub differs_is : (xs : List ℕ) → 0 < length xs → std.list_any (λ x. not (eqb x (get_or xs 0 0))) xs ≡ differs xs
unfolding any
differs_is [] h = absurd (omega arith)
differs_is (x ∷ xs) h = rw (eq-eqb x x refl) (any_of (λ y. not (eqb y x)) xs)

-- ---- a signed number, as a call is given it
pub same_z : {z : ℤ} → SFits w64 z → to_z w64 (of_z w64 z) ≡ z
same_z {z} fits = grind (arith, to_z-of_z)

-- ---- as many items in both lists, and those at the same place have to do with each other
module _ {A B : Type 0} where
  pub data Beside (R : A → B → Type 0) : List A → List B → Type 0 where
    none : Beside R [] []
    one : {x : A} {y : B} {xs : List A} {ys : List B} → R x y → Beside R xs ys → Beside R (x ∷ xs) (y ∷ ys)

  module _ {R : A → B → Type 0} where
    pub as_many : {xs : List A} {ys : List B} → Beside R xs ys → length xs ≡ length ys
    as_many none = refl
    as_many (one r rs) = ap suc (as_many rs)

    pub at : {xs : List A} {ys : List B} → Beside R xs ys → (i : ℕ) (a : A) (b : B) → i < length xs → R (get_or xs i a) (get_or ys i b)
    at none i a b h = absurd (omega arith)
    at (one r rs) zero a b h = r
    at (one r rs) (suc i) a b h = at rs i a b (omega arith)

-- ---- near lists, one after the other
pub near_append : (xs : List ℕ) (fs : List Fraction) {ys : List ℕ} {gs : List Fraction} {k : ℕ} → length xs ≡ length fs → NearAll xs fs k → NearAll ys gs k
    → NearAll (xs ++ ys) (fs ++ gs) k
near_append [] [] e n m = m
near_append [] (f ∷ fs) e n m = absurd (omega arith)
near_append (x ∷ xs) [] e n m = absurd (omega arith)
near_append (x ∷ xs) (f ∷ fs) e n m = near_cons (n.at 0) (near_append xs fs (omega arith) (near_tail n) m)

-- ---- lists of four numbers a unit, joined: list i is where the units before it end
abbrev pub Fours : ℕ → List ℕ → Type 0
Fours n xs = length xs ≡ 4 * n

pub joined_length : {ns : List ℕ} {xss : List (List ℕ)} → Beside Fours ns xss → length (joined xss) ≡ 4 * sum ns
unfolding joined
joined_length none = refl
joined_length (one {y = xs} {ys = xss} r rs) = omega (arith, length-append xs (joined xss), joined_length rs)

abbrev sum_from : List ℕ → (start n : ℕ) → ℕ
sum_from xs start n = sum_to n (λ u. sum_to 4 (λ j. get_or xs (4 * (start + u) + j) 0))

pub sum_of-part : {ns : List ℕ} {xss : List (List ℕ)} → Beside Fours ns xss → (i : ℕ) → i < length ns
    → sum_from (joined xss) (sum (take i ns)) (get_or ns i 0) ≡ sum (get_or xss i [])
unfolding joined
sum_of-part none i h = absurd (omega arith)
sum_of-part (one {x = n} {y = xs} {ys = xss} r rs) zero h =
    sum_to_cong n _ _ (λ u l. sum_to_cong 4 _ _ (λ j k.
    ap (λ (m : ℕ). get_or (xs ++ joined xss) m 0) {y = 4 * u + j} (omega arith) ∙ get_or-append xs (joined xss) 0 (4 * u + j) (omega arith)))
    ∙ sum-by-fours n xs r
sum_of-part (one {x = n} {y = xs} {xs = ns} {ys = xss} r rs) (suc i) h =
    let b = sum (take i ns) in
    sum_to_cong (get_or ns i 0) _ _ (λ u l. sum_to_cong 4 _ _ (λ j k.
    ap (λ (m : ℕ). get_or (xs ++ joined xss) m 0) {y = length xs + (4 * (b + u) + j)} (omega arith) ∙ get_or-append-add xs (joined xss) (4 * (b + u) + j) 0))
    ∙ sum_of-part rs i (omega arith)

-- the items before place i and the one there add to no more than all
pub up_to-part : (ns : List ℕ) (i : ℕ) → sum (take i ns) + get_or ns i 0 ≤ sum ns
up_to-part [] zero = omega arith
up_to-part [] (suc i) = omega arith
up_to-part (n ∷ ns) zero = omega arith
up_to-part (n ∷ ns) (suc i) = omega (arith, up_to-part ns i)

-- ---- numbers that add to r, joined
abbrev pub AddTo : ℕ → List ℕ → Type 0
AddTo r xs = sum xs ≡ r

pub joined-sum : {rs : List ℕ} {xss : List (List ℕ)} → Beside AddTo rs xss → sum (joined xss) ≡ sum rs
unfolding joined
joined-sum none = refl
joined-sum (one {y = xs} {ys = xss} r rs) = omega (arith, sum_append xs (joined xss), joined-sum rs)

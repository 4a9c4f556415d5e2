-- Laws of a number in decimal digits. Assumes nothing.
use Rattle.std.specs.Prelude.{if◌then◌else◌}
use mathlib.Core.Path.{◌≡◌, refl, ap, subst}
use mathlib.Core.Bool.{Bool, true, false}
use mathlib.Core.List.{List, [], ◌∷◌}
use Prim.Native.Nat.{ℕ, zero, suc, ◌+◌, ◌-◌, ◌*◌, ◌/◌, ◌%◌, ◌^◌, ◌≤◌, ◌<◌, max}
use native.Mathlib.Nat.{pow-suc, pow-le-pow_right, one-le-pow}
use native.Mathlib.Omega.{arith}
use lib.Dec.{ltb}
use lib.ListN.{length, length-append}
use borrow.Author.Tests.{lt-ltb, le-ltb}
use Rattle.io.specs.Digits.{hex_digit_ascii, last_digits, IsDigitCount}
use Rattle.printing.specs.Text.{digit, digits_up_to, decimal}

-- ---- the digits of `io::decimal`
glyph_digit : (x : ℕ) → x < 10 → hex_digit_ascii x ≡ digit x
glyph_digit x h = rw (lt-ltb x 10 h)

spelled_by : (f k x : ℕ) → k ≤ f → x < 10 ^ suc k → (0 < k → 10 ^ k ≤ x) → digits_up_to (suc f) x ≡ last_digits 10 (suc k) x
unfolding digits_up_to
spelled_by f zero x h l m =
    let low : x < 10 = l in
    let e : x % 10 ≡ x = omega arith in
    rw (lt-ltb x 10 low, e, glyph_digit x low)
spelled_by zero (suc k) x h l m = absurd (omega arith)
spelled_by (suc f) (suc k) x h l m =
    let p : 10 ^ suc (suc k) ≡ 10 ^ suc k * 10 = pow-suc 10 (suc k) in
    let q : 10 ^ suc k ≡ 10 ^ k * 10 = pow-suc 10 k in
    let o : 1 ≤ 10 ^ k = one-le-pow k 10 (omega arith) in
    let high : 10 ^ suc k ≤ x = m (omega arith) in
    rw (le-ltb x 10 (omega arith), spelled_by f k (x / 10) (omega arith) (omega arith) (λ _. omega arith), glyph_digit (x % 10) (omega arith))

pub spelled : (k x : ℕ) → IsDigitCount 10 1 x k → x < 18446744073709551616 → decimal x ≡ last_digits 10 k x
unfolding decimal
spelled zero x (a, b, c) h = absurd (omega arith)
spelled (suc zero) x (a, b, c) h = spelled_by 19 zero x (omega arith) b (λ i. absurd (omega arith))
spelled (suc (suc k)) x (a, b, c) h =
    let e : suc (suc k) - 1 ≡ suc k = omega arith in
    let high : 10 ^ suc k ≤ x = subst (λ (j : ℕ). 10 ^ j ≤ x) e (c (omega arith)) in
    let few : 20 ≤ suc k → ⊥ = λ i. let p : 10 ^ 20 ≤ 10 ^ suc k = pow-le-pow_right (omega arith) i in omega arith in
    spelled_by 19 (suc k) x (omega (arith, few)) b (λ i. high)

-- ---- how many digits
last-long : (k x : ℕ) → length (last_digits 10 k x) ≡ k
last-long zero x = refl
last-long (suc k) x = omega (arith, length-append (last_digits 10 k (x / 10)) (hex_digit_ascii (x % 10) ∷ []), last-long k (x / 10))

reaches : (k x : ℕ) → 0 < k → 10 ^ k ≤ max x 1 → 10 ^ k ≤ x
reaches zero x h le = absurd (omega arith)
reaches (suc k) x h le =
    let p : 10 ^ suc k ≡ 10 ^ k * 10 = pow-suc 10 k in
    let o : 1 ≤ 10 ^ k = one-le-pow k 10 (omega arith) in
    omega arith

-- one more than the highest power of ten in the number, or in 1 for 0
pub decimal-long : (k x : ℕ) → k < 20 → 10 ^ k ≤ max x 1 → max x 1 < 10 * 10 ^ k → length (decimal x) ≡ k + 1
unfolding decimal
decimal-long k x few le less =
    let p : 10 ^ suc k ≡ 10 ^ k * 10 = pow-suc 10 k in
    omega (arith, ap length (spelled_by 19 k x (omega arith) (omega arith) (λ h. reaches k x h le)), last-long (suc k) x)

either_short : (b : Bool) (xs ys : List ℕ) (m : ℕ) → length xs ≤ m → length ys ≤ m → length (if b then xs else ys) ≤ m
either_short true xs ys m h k = h
either_short false xs ys m h k = k

short-by : (f j x : ℕ) → x < 10 ^ suc j → length (digits_up_to f x) ≤ suc j
unfolding digits_up_to
short-by zero j x h = omega arith
short-by (suc f) zero x h =
    let low : x < 10 = h in
    rw (lt-ltb x 10 low) (omega arith)
short-by (suc f) (suc j) x h =
    let p : 10 ^ suc (suc j) ≡ 10 ^ suc j * 10 = pow-suc 10 (suc j) in
    either_short (ltb x 10) _ _ (suc (suc j)) (omega arith) (omega (arith, short-by f j (x / 10) (omega arith), length-append (digits_up_to f (x / 10)) (digit (x % 10) ∷ [])))

pub decimal-short : (j x : ℕ) → x < 10 ^ suc j → length (decimal x) ≤ suc j
unfolding decimal
decimal-short j x h = short-by 20 j x h

-- of any number
most-by : (f x : ℕ) → length (digits_up_to (suc f) x) ≤ suc f
unfolding digits_up_to
most-by zero x = either_short (ltb x 10) _ _ 1 (omega arith) (omega arith)
most-by (suc f) x = either_short (ltb x 10) _ _ (suc (suc f)) (omega arith) (omega (arith, most-by f (x / 10), length-append (digits_up_to (suc f) (x / 10)) (digit (x % 10) ∷ [])))

pub decimal_most : (x : ℕ) → length (decimal x) ≤ 20
unfolding decimal
decimal_most x = most-by 19 x

-- An array of which a part is lent and given back. Assumes nothing.
use mathlib.Core.Path.{◌≡◌, refl, ap}
use mathlib.Core.List.{List, ◌∷◌}
use Prim.Native.Nat.{ℕ, zero, suc, ◌-◌, ◌≤◌}
use native.Mathlib.Omega.{arith}
use lib.ListN.{length, take, drop, replicate, length-replicate}
use lib.Seq.{length-take-le}

-- the first k places of an array of zeros, lent
pub lent_length : (size k : ℕ) → k ≤ size → length {A = ℕ} (take k (replicate size 0)) ≡ k
lent_length size k h = length-take-le k (replicate size 0) (omega (arith, length-replicate {A = ℕ} size 0))

-- a part of an array that nothing has been written to, and what stands behind it
pub front_untouched : (k n x : ℕ) → k ≤ n → take k (replicate n x) ≡ replicate k x
front_untouched zero n x h = refl
front_untouched (suc k) zero x h = absurd (omega arith)
front_untouched (suc k) (suc n) x h = ap (λ (r : List ℕ). x ∷ r) (front_untouched k n x (omega arith))

pub rest_untouched : (k n x : ℕ) → drop k (replicate n x) ≡ replicate (n - k) x
rest_untouched zero n x = let e : n - 0 ≡ n = omega arith in rw e
rest_untouched (suc k) zero x = let e : 0 - suc k ≡ 0 = omega arith in rw e
rest_untouched (suc k) (suc n) x = let e : suc n - suc k ≡ n - k = omega arith in rw e (rest_untouched k n x)

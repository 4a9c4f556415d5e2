-- What the quotas leave, and lists added item by item. Assumes nothing.
use mathlib.Core.Path.{◌≡◌, refl, sym, ap, ap₂, subst, ◌∙◌}
use mathlib.Core.List.{List, [], ◌∷◌, ◌++◌, map, map-append}
use mathlib.Core.Logic.{inl, inr}
use Prim.Native.Nat.{ℕ, zero, suc, ◌+◌, ◌*◌, ◌-◌, ◌≤◌, ◌<◌, max}
use native.Mathlib.Nat.{mul-add, add-mul, mul_comm, mul-zero, zero-mul, one-mul, div-add-mod', mod-lt, le_of_mul-le-mul_right, mul-le-mul_left, div-le_of_le-mul}
use native.Mathlib.Omega.{arith}
use lib.Dec.{leb, ltb}
use lib.ListN
use lib.ListN.{length, get_or, take, length-map}
use Rattle.std.specs.Int.{from_bool}
use Rattle.apportion.specs.Shares.{bit, sum, at_least, added, quota, remainder, leftover}
use Rattle.apportion.specs.Inner.Selection.{largest, RoundedDown}
use Rattle.apportion.proofs.Counting.{bit-cases, bit-from_bool, antitone, at_zero, count_snoc}

-- ---- lists
pub length-added : (xs ys : List ℕ) → length (added xs ys) ≡ length xs
length-added [] ys = refl
length-added (x ∷ xs) [] = refl
length-added (x ∷ xs) (y ∷ ys) = ap suc (length-added xs ys)

pub sum_added : (xs ys : List ℕ) → length ys ≤ length xs → sum (added xs ys) ≡ sum xs + sum ys
sum_added [] [] h = refl
sum_added [] (y ∷ ys) h = absurd (omega arith)
sum_added (x ∷ xs) [] h = omega arith
sum_added (x ∷ xs) (y ∷ ys) h = omega (arith, sum_added xs ys (omega arith))

pub get_d_added : (xs ys : List ℕ) (i : ℕ) → length ys ≤ length xs → get_or (added xs ys) i 0 ≡ get_or xs i 0 + get_or ys i 0
get_d_added [] [] i h = omega arith
get_d_added [] (y ∷ ys) i h = absurd (omega arith)
get_d_added (x ∷ xs) [] i h = omega arith
get_d_added (x ∷ xs) (y ∷ ys) zero h = refl
get_d_added (x ∷ xs) (y ∷ ys) (suc i) h = get_d_added xs ys i (omega arith)

pub item_le : (ws : List ℕ) (i : ℕ) → get_or ws i 0 ≤ sum ws
item_le [] i = omega arith
item_le (w ∷ ws) zero = omega arith
item_le (w ∷ ws) (suc i) = omega (arith, item_le ws i)

pub sum-take-le : (n : ℕ) (ws : List ℕ) → sum (take n ws) ≤ sum ws
sum-take-le zero ws = omega arith
sum-take-le (suc n) [] = omega arith
sum-take-le (suc n) (w ∷ ws) = omega (arith, sum-take-le n ws)

pub largest-append : (xs : List ℕ) (x : ℕ) → largest (xs ++ (x ∷ [])) ≡ max (largest xs) x
largest-append [] x = omega arith
largest-append (y ∷ xs) x = omega (arith, largest-append xs x)

pub get_or-map : (f : ℕ → ℕ) (ws : List ℕ) (i : ℕ) → f 0 ≡ 0 → get_or (map f ws) i 0 ≡ f (get_or ws i 0)
get_or-map f ws i e = subst (λ (d : ℕ). get_or (map f ws) i d ≡ f (get_or ws i 0)) e (ListN.get_or-map f ws i 0)

-- ---- quotas and remainders
pub quota_le : (total whole w : ℕ) → 0 < whole → w ≤ whole → quota total whole w ≤ total
quota_le total whole w hp h = div-le_of_le-mul whole (omega (arith, mul-le-mul_left total h, mul_comm total whole))

module _ (total whole : ℕ) where
  whole_parts : (ws : List ℕ) → total * sum ws ≡ sum (map (quota total whole) ws) * whole + sum (map (remainder total whole) ws)
  whole_parts [] = omega (arith, mul-zero total, zero-mul whole)
  whole_parts (w ∷ ws) =
      omega (arith, whole_parts ws, mul-add total w (sum ws), add-mul (quota total whole w) (sum (map (quota total whole) ws)) whole, div-add-mod' (total * w) whole)

  module _ (hp : 0 < whole) where
    remainders_le : (ws : List ℕ) → sum (map (remainder total whole) ws) ≤ at_least 1 (map (remainder total whole) ws) * whole
    remainders_le [] = omega arith
    remainders_le (w ∷ ws) =
        let k = remainder total whole w in
        let m = add-mul (bit (leb 1 k)) (at_least 1 (map (remainder total whole) ws)) whole in
        let l = mod-lt (total * w) hp in
        elim (bit-cases 1 k) [
          | inl a ↦ omega (arith, remainders_le ws, ap (λ (x : ℕ). x * whole) a.1, one-mul whole)
          | inr a ↦ omega (arith, remainders_le ws, ap (λ (x : ℕ). x * whole) a.1, zero-mul whole)
        ]

    pub largest_lt : (ws : List ℕ) → largest (map (remainder total whole) ws) < whole
    largest_lt [] = hp
    largest_lt (w ∷ ws) = omega (arith, mod-lt (total * w) hp, largest_lt ws)

    pub quotas_le : (ws : List ℕ) → sum ws ≤ whole → sum (map (quota total whole) ws) ≤ total
    quotas_le ws h = le_of_mul-le-mul_right (omega (arith, whole_parts ws, mul-le-mul_left total h)) hp

pub sum-quotas : (total whole : ℕ) (ws : List ℕ) (w : ℕ) → sum (map (quota total whole) (ws ++ (w ∷ []))) ≡ sum (map (quota total whole) ws) + quota total whole w
sum-quotas total whole [] w = omega arith
sum-quotas total whole (v ∷ ws) w = omega (arith, sum-quotas total whole ws w)

-- one weight more
pub rounded_more : {total whole s l p : ℕ} {ws rests out : List ℕ} (w q r l' b : ℕ) → RoundedDown total whole ws s l p rests out
    → q ≡ quota total whole w → r ≡ remainder total whole w → l' ≡ max l r → b ≡ from_bool (ltb 0 r)
    → RoundedDown total whole (ws ++ (w ∷ [])) (s + q) l' (p + b) (rests ++ (r ∷ [])) (out ++ (q ∷ []))
rounded_more {total} {whole} {ws = ws} w q r l' b h eq er el eb =
    let qs = map-append (quota total whole) ws (w ∷ []) in
    let rs = map-append (remainder total whole) ws (w ∷ []) in
    record {
      is-quotas = ap₂ (λ (xs : List ℕ) (x : ℕ). xs ++ (x ∷ [])) h.is-quotas eq ∙ sym qs;
      is-remainders = ap₂ (λ (xs : List ℕ) (x : ℕ). xs ++ (x ∷ [])) h.is-remainders er ∙ sym rs;
      is_sum = omega (arith, h.is_sum, eq, sum-quotas total whole ws w);
      is-largest = omega (arith, h.is-largest, ap largest rs, largest-append (map (remainder total whole) ws) (remainder total whole w));
      is_positive = omega (
        arith,
        h.is_positive,
        ap (at_least 1) rs,
        count_snoc 1 (map (remainder total whole) ws) (remainder total whole w),
        eb ∙ bit-from_bool (ltb 0 r) ∙ ap (λ (x : ℕ). bit (ltb 0 x)) er,
      );
    }

-- the leftover is at most the number of remainders above 0
module _ (total : ℕ) (ws : List ℕ) (hp : 0 < sum ws) where
  pub leftover_le : leftover total ws ≤ at_least 1 (map (remainder total (sum ws)) ws)
  leftover_le =
      let down = sum (map (quota total (sum ws)) ws) in
      let back : total - down + down ≡ total = omega (arith, quotas_le total (sum ws) hp ws (omega arith)) in
      le_of_mul-le-mul_right
      (omega (arith, whole_parts total (sum ws) ws, remainders_le total (sum ws) hp ws, add-mul (total - down) down (sum ws), ap (λ (x : ℕ). x * sum ws) back))
      hp

  pub leftover-fits : leftover total ws ≤ length ws
  leftover-fits =
      let rs = map (remainder total (sum ws)) ws in
      omega (arith, leftover_le, antitone 0 1 rs (omega arith), at_zero rs, length-map ws (remainder total (sum ws)))

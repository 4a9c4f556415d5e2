-- Laws of `Near`: whole numbers near fractions. Assumes nothing.
use Rattle.std.specs.Prelude.{if◌then◌else◌}
use mathlib.Core.Path.{◌≡◌, refl, ap}
use mathlib.Core.Bool.{Bool, true, false, cond}
use mathlib.Core.Logic.{◌⊎◌, inl, inr}
use mathlib.Core.List.{List, [], ◌∷◌, map}
use Prim.Native.Nat.{ℕ, zero, suc, ◌+◌, ◌*◌, ◌-◌, ◌/◌, ◌≤◌, ◌<◌}
use native.Mathlib.Omega.{arith}
use native.Mathlib.Decide.{dec_lt}
use native.Mathlib.Nat.{mul-le-mul_right, mul-le-mul_left, mul-pos, div-add-mod', mod-lt}
use borrow.Author.Tests.{ltb-true, ltb-false, eqb-true, eqb-false}
use lib.Dec.{ltb, eqb}
use lib.ListN.{length, get_or, length-map, get_or-eq_default}
use lib.IntN.{ℤ, pos, negsuc, ◌+ℤ◌, ◌-ℤ◌, ◌*ℤ◌, neg_ℤ, sub_ℕ, nat_abs}
use Rattle.apportion.specs.Shares.{sum}
use Rattle.apportion.specs.Fair.{Fair}
use Rattle.month.specs.Fraction.{Fraction, Near, ◌over◌, ◌+ᶠ◌, ◌-ᶠ◌, portion, portions}

-- ---- a whole number's two parts, one of them 0: what omega reads
abbrev pub up : ℤ → ℕ
up (pos n) = n
up (negsuc n) = 0

abbrev pub down : ℤ → ℕ
down (pos n) = 0
down (negsuc n) = suc n

size : (z : ℤ) → nat_abs z ≡ up z + down z
size (pos n) = omega arith
size (negsuc n) = omega arith

pub one-part : (z : ℤ) → (up z ≡ 0) ⊎ (down z ≡ 0)
one-part (pos n) = inr refl
one-part (negsuc n) = inl refl

parts_sub : (a b : ℕ) → up (sub_ℕ a b) + b ≡ a + down (sub_ℕ a b)
parts_sub a b = go (ltb a b) refl
  where
    go : (t : Bool) → ltb a b ≡ t → up (cond t (negsuc (b - suc a)) (pos (a - b))) + b ≡ a + down (cond t (negsuc (b - suc a)) (pos (a - b)))
    go true e = omega (arith, ltb-true a b e)
    go false e = omega (arith, ltb-false a b e)

parts_add : (z w : ℤ) → up (z +ℤ w) + (down z + down w) ≡ up z + up w + down (z +ℤ w)
parts_add (pos a) (pos b) = omega arith
parts_add (pos a) (negsuc b) = omega (arith, parts_sub a (suc b))
parts_add (negsuc a) (pos b) = omega (arith, parts_sub b (suc a))
parts_add (negsuc a) (negsuc b) = omega arith

parts_neg : (z : ℤ) → (up (neg_ℤ z) ≡ down z) × (down (neg_ℤ z) ≡ up z)
parts_neg (pos zero) = (refl, refl)
parts_neg (pos (suc n)) = (refl, refl)
parts_neg (negsuc n) = (refl, refl)

pub parts_less : (z w : ℤ) → up (z -ℤ w) + (down z + up w) ≡ up z + down w + down (z -ℤ w)
parts_less z w = omega (arith, parts_add z (neg_ℤ w), parts_neg w)

parts_times : (z : ℤ) (k : ℕ) → up (z *ℤ pos k) + down z * k ≡ up z * k + down (z *ℤ pos k)
parts_times (pos a) k = omega arith
parts_times (negsuc a) k = omega (arith, parts_neg (pos (suc a * k)))

-- a distance, by naturals alone
to_near : (x k : ℕ) (z : ℤ) → x + down z ≤ up z + k → up z ≤ x + down z + k → nat_abs (pos x -ℤ z) ≤ k
to_near x k z p q =
    let d = parts_less (pos x) z in
    let n = size (pos x -ℤ z) in
    elim (one-part (pos x -ℤ z)) [ inl e ↦ omega arith | inr e ↦ omega arith ]

of_near : (x k : ℕ) (z : ℤ) → nat_abs (pos x -ℤ z) ≤ k → (x + down z ≤ up z + k) × (up z ≤ x + down z + k)
of_near x k z h = omega (arith, parts_less (pos x) z, size (pos x -ℤ z))

-- ---- one number
module _ {x : ℕ} {f : Fraction} where
  pub near_more : {k l : ℕ} → k ≤ l → Near x f k → Near x f l
  near_more h n = record { above0 = n.above0; within = omega (arith, n.within, mul-le-mul_right f.lower h) }

pub near_whole : (n : ℕ) → Near n (n over 1) 0
near_whole n = record { above0 = omega arith; within = to_near (n * 1) (0 * 1) (pos n) (omega arith) (omega arith) }

pub near_zero : (k : ℕ) → Near 0 (0 over 1) k
near_zero k = near_more (omega arith) (near_whole 0)

-- y / w, rounded down or up
pub near_quotient : (x y w : ℕ) → 0 < w → x * w < y + w → y < x * w + w → Near x (y over w) 1
near_quotient x y w h p q = record { above0 = h; within = to_near (x * w) (1 * w) (pos y) (omega arith) (omega arith) }

-- x is a / b rounded up
pub data RoundedUp : ℕ → Fraction → Type 0 where
  rounded : (x a b : ℕ) → 0 < b → a ≤ x * b → x * b < a + b → RoundedUp x (a over b)

pub up-whole : (n : ℕ) → RoundedUp n (n over 1)
up-whole n = rounded n n 1 (omega arith) (omega arith) (omega arith)

pub up-quotient : (a b : ℕ) → 0 < b → RoundedUp ((a + (b - 1)) / b) (a over b)
up-quotient a b h =
    let e = div-add-mod' (a + (b - 1)) b in
    let l = mod-lt (a + (b - 1)) h in
    rounded ((a + (b - 1)) / b) a b h (omega arith) (omega arith)

pub near_up : {x : ℕ} {f : Fraction} → RoundedUp x f → Near x f 1
near_up (rounded x a b h p q) = near_quotient x a b h q (omega arith)

module _ {x y k l : ℕ} {f g : Fraction} (p : Near x f k) (q : Near y g l) where
  pub near_add : Near (x + y) (f +ᶠ g) (k + l)
  unfolding ◌+ᶠ◌
  near_add =
      let a = f.upper in let b = f.lower in let c = g.upper in let d = g.lower in
      let p' = of_near (x * b) (k * b) a p.within in
      let q' = of_near (y * d) (l * d) c q.within in
      let ad = parts_times a d in let cb = parts_times c b in
      let s = parts_add (a *ℤ pos d) (c *ℤ pos b) in
      record {
        above0 = mul-pos p.above0 q.above0;
        within = to_near ((x + y) * (b * d)) ((k + l) * (b * d)) (a *ℤ pos d +ℤ c *ℤ pos b)
            (omega (arith, mul-le-mul_right d p'.0, mul-le-mul_right b q'.0))
            (omega (arith, mul-le-mul_right d p'.1, mul-le-mul_right b q'.1));
      }

  pub near_less : y ≤ x → Near (x - y) (f -ᶠ g) (k + l)
  unfolding ◌-ᶠ◌
  near_less le =
      let a = f.upper in let b = f.lower in let c = g.upper in let d = g.lower in
      let w = x - y in
      let e : x ≡ w + y = omega arith in
      let e' : x * b ≡ (w + y) * b = ap (λ (t : ℕ). t * b) e in
      let p' = of_near (x * b) (k * b) a p.within in
      let q' = of_near (y * d) (l * d) c q.within in
      let ad = parts_times a d in let cb = parts_times c b in
      let s = parts_less (a *ℤ pos d) (c *ℤ pos b) in
      record {
        above0 = mul-pos p.above0 q.above0;
        within = to_near (w * (b * d)) ((k + l) * (b * d)) (a *ℤ pos d -ℤ c *ℤ pos b)
            (omega (arith, mul-le-mul_right d p'.0, mul-le-mul_right b q'.1, ap (λ (t : ℕ). t * d) e'))
            (omega (arith, mul-le-mul_right d p'.1, mul-le-mul_right b q'.0, ap (λ (t : ℕ). t * d) e'));
      }

-- a part of T by w of W, rounded down or up
near_part : (T x k w W : ℕ) (f : Fraction) → 0 < W → w ≤ W → x * W ≤ T * w + W → T * w ≤ x * W + W → Near T f k
    → Near x (record { upper = f.upper *ℤ pos w; lower = f.lower * W }) (k + 1)
near_part T x k w W f positive part hi lo n =
    let a = f.upper in let b = f.lower in
    let h = of_near (T * b) (k * b) a n.within in
    let aw = parts_times a w in
    record {
      above0 = mul-pos n.above0 positive;
      within = to_near (x * (b * W)) ((k + 1) * (b * W)) (a *ℤ pos w)
          (omega (arith, mul-le-mul_right w h.0, mul-le-mul_right b hi, mul-le-mul_left (k * b) part))
          (omega (arith, mul-le-mul_right w h.1, mul-le-mul_right b lo, mul-le-mul_left (k * b) part));
    }

-- ---- lists: each number near the fraction at its place (past the end both are 0)
pub record NearAll (xs : List ℕ) (fs : List Fraction) (k : ℕ) : Type 0 where
  pub at : (i : ℕ) → Near (get_or xs i 0) (get_or fs i (0 over 1)) k

pub all_more : {xs : List ℕ} {fs : List Fraction} {k l : ℕ} → k ≤ l → NearAll xs fs k → NearAll xs fs l
all_more h n = record { at = λ i. near_more h (n.at i) }

pub get_d_map_in : {A B : Type 0} (g : A → B) (xs : List A) (i : ℕ) (a : A) (b : B) → i < length xs → get_or (map g xs) i b ≡ g (get_or xs i a)
get_d_map_in g [] i a b h = absurd (omega arith)
get_d_map_in g (x ∷ xs) zero a b h = refl
get_d_map_in g (x ∷ xs) (suc i) a b h = get_d_map_in g xs i a b (omega arith)

pub item_le : (xs : List ℕ) (i : ℕ) → get_or xs i 0 ≤ sum xs
item_le [] i = omega arith
item_le (x ∷ xs) zero = omega arith
item_le (x ∷ xs) (suc i) = omega (arith, item_le xs i)

-- DIVIDING KEEPS NEAR, AND ADDS ONE: each share is near its portion
module _ {T k : ℕ} {f : Fraction} {ws xs : List ℕ} (fair : Fair T ws xs) (n : Near T f k) where
  near_share : (i : ℕ) → Near (get_or xs i 0) (get_or (portions f ws) i (0 over 1)) (k + 1)
  unfolding portions portion
  near_share i =
      elim (dec_lt i (length ws)) [
        | yes h ↦ rw (get_d_map_in (portion f (sum ws)) ws i 0 (0 over 1) h) (go (eqb (sum ws) 0) refl)
        | no h ↦
            let p : get_or xs i 0 ≡ 0 = get_or-eq_default xs 0 (omega (arith, fair.as_many)) in
            let q : get_or (map (portion f (sum ws)) ws) i (0 over 1) ≡ 0 over 1 = get_or-eq_default (map (portion f (sum ws)) ws) (0 over 1) (omega (arith, length-map ws (portion f (sum ws)))) in
            rw (p, q) (near_zero (k + 1))
      ]
    where
      go : (t : Bool) → eqb (sum ws) 0 ≡ t
          → Near (get_or xs i 0) (if t then 0 over 1 else record { upper = f.upper *ℤ pos (get_or ws i 0); lower = f.lower * sum ws }) (k + 1)
      go true e = rw (fair.none_for_none i (omega (arith, item_le ws i, eqb-true (sum ws) 0 e))) (near_zero (k + 1))
      go false e =
          let h : 0 < sum ws = omega (arith, eqb-false (sum ws) 0 e) in
          near_part T (get_or xs i 0) k (get_or ws i 0) (sum ws) f h (item_le ws i)
          (omega (arith, fair.not_above_lem h i)) (omega (arith, fair.not-below h i)) n

  pub near_divided : NearAll xs (portions f ws) (k + 1)
  near_divided = record { at = near_share }

-- The arithmetic of `divided` over natural numbers, with products as unknowns of `omega`. Assumes nothing.
use mathlib.Core.Path.{◌≡◌, sym, ap, ◌∙◌}
use Prim.Native.Nat.{ℕ, suc, ◌+◌, ◌*◌, ◌-◌, ◌/◌, ◌%◌, ◌^◌, ◌≤◌, ◌<◌}
use native.Mathlib.Nat.{mul-le-mul, mul-le-mul_left, mul-add, add-mul, mul_comm, mul_assoc, mul-sub, mul-div_cancel, div-add-mod', mod-lt, div-le_of_le-mul, div-lt_iff_lt-mul, add-mul-div_left, add-mul-mod_self_left}
use native.Mathlib.Decide.{dec_lt}
use native.Mathlib.Omega.{arith}
use lib.Pow.{shl_lt, pow_mono}
use lib.Count.{count_leading_zeros, leading_top}
use lib.Arith.{digits_div, digits_mod}

-- ---- how far a divisor can be shifted up
-- of two powers of 2 the smaller has the smaller exponent
below : (j k a : ℕ) → 2 ^ j ≤ a → a < 2 ^ k → j < k
below j k a lo hi = elim (dec_lt j k) [ yes h ↦ h | no h ↦ absurd (let g : 2 ^ k ≤ 2 ^ j = pow_mono (omega arith) in omega arith) ]

pub fits : (a : ℕ) → 0 < a → a < 2 ^ 62 → (2 ≤ count_leading_zeros 64 a) × (count_leading_zeros 64 a - 2 < 64) × (a * 2 ^ (count_leading_zeros 64 a - 2) < 2 ^ 62)
fits a hp hl =
    let top = leading_top 64 a hp (omega arith) in
    let j-lt : top.0 < 62 = below top.0 62 a top.2 hl in
    let e : suc top.0 + (count_leading_zeros 64 a - 2) ≡ 62 = omega arith in
    (omega arith, omega arith, rw e at (shl_lt (suc top.0) (count_leading_zeros 64 a - 2) top.3))

-- ---- the division
-- where the product is cut
abbrev cut : ℕ
cut = 0x8000_0000

cut_product : (x y : ℕ) → x * y ≡ x * (y / cut) * cut + x * (y % cut)
cut_product x y = ap (λ (z : ℕ). x * z) (omega arith) ∙ mul-add x (y / cut * cut) (y % cut) ∙ ap (λ (z : ℕ). z + x * (y % cut)) (sym (mul_assoc x (y / cut) cut))

-- every product is bounded, and the first q and r make the whole product
pub record Wide (t w whole part d wide q : ℕ) : Type 0 where
  pub part_le : part ≤ (2 ^ 32 - 1) * (2 ^ 31 - 1)
  pub upper_le : t * (w / cut) ≤ (2 ^ 32 - 1) * (2 ^ 31 - 1)
  pub enough : 2 ^ 32 ≤ wide / d
  pub q_le : q ≤ t
  pub rest_lt : wide % d < d
  pub more_le : q * (cut - whole % cut) ≤ (2 ^ 32 - 1) * cut
  pub sum : q * whole + (wide % d * cut + part % cut + q * (cut - whole % cut)) ≡ t * w

pub wide : (t w whole : ℕ) → (t < 2 ^ 32) × (w ≤ whole) × (0 < whole) × (whole < 2 ^ 62)
    → let part = t * (w % cut) in let d = whole / cut + 1 in let wide = t * (w / cut) + part / cut + d * 2 ^ 32 in Wide t w whole part d wide (wide / d - 2 ^ 32)
wide t w whole pre =
    let part = t * (w % cut) in
    let a = t * (w / cut) + part / cut in
    let d = whole / cut + 1 in
    let dividend = a + d * 2 ^ 32 in
    let q = dividend / d - 2 ^ 32 in
    -- the quotient is 2^32 more than that of a, the rest is that of a
    let more : dividend / d ≡ a / d + 2 ^ 32 = add-mul-div_left a (2 ^ 32) (omega arith) in
    let rest : dividend % d ≡ a % d = add-mul-mod_self_left a d (2 ^ 32) in
    let parts : q * d + dividend % d ≡ a = omega (arith, rest, div-add-mod' a d, ap (λ (x : ℕ). x * d) {x = q} {y = a / d} (omega (arith, more))) in
    let q_le : q ≤ t =
    omega (
      arith,
      more,
      div-le_of_le-mul d {m = a} {n = t}
          (omega (arith, mul-le-mul_left {m = w % cut} {n = cut} t (omega arith), mul-le-mul_left {m = w / cut + 1} {n = d} t (omega arith), mul-add t (w / cut) 1, mul_comm d t)),
    ) in
    record {
      part_le = mul-le-mul {n₂ = 2 ^ 32 - 1} {m₂ = 2 ^ 31 - 1} (omega arith) (omega arith);
      upper_le = mul-le-mul {n₂ = 2 ^ 32 - 1} {m₂ = 2 ^ 31 - 1} (omega arith) (omega arith);
      enough = omega (arith, more);
      q_le = q_le;
      rest_lt = mod-lt dividend (omega arith);
      more_le = mul-le-mul {n₂ = 2 ^ 32 - 1} {m₂ = cut} (omega arith) (omega arith);
      sum = omega (arith, cut_product t w, cut_product q whole, parts, mul-add q (whole / cut) 1, mul-sub q cut (whole % cut), mul-le-mul_left {m = whole % cut} {n = cut} q (omega arith));
    }

-- weight and divisor both scaled by p: the quotient stays, and the remainder is scaled
pub scaled : (t w whole p q r : ℕ) → 0 < p → q * (whole * p) + r ≡ t * (w * p) → r < whole * p → (q ≡ t * w / whole) × (r / p ≡ t * w % whole)
scaled t w whole p q r hp e h =
    let f : (q * whole + r / p) * p + r % p ≡ t * w * p =
    omega (arith, e, add-mul (q * whole) (r / p) p, mul_assoc q whole p, div-add-mod' r p, mul_assoc t w p) in
    let g : q * whole + r / p ≡ t * w =
    sym (digits_div (q * whole + r / p) (mod-lt r hp)) ∙ ap (λ (y : ℕ). y / p) f ∙ mul-div_cancel (t * w) hp in
    let l : r / p < whole = (div-lt_iff_lt-mul hp).1 h in
    (sym (digits_div q l) ∙ ap (λ (y : ℕ). y / whole) g, sym (digits_mod q l) ∙ ap (λ (y : ℕ). y % whole) g)

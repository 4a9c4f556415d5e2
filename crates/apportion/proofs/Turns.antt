-- A total of whole turns and a rest: each turn gives every item its weight, and the rest is divided by itself. So a total past 32 bits is divided by
-- small weights without a wider number. Assumes nothing.
use mathlib.Core.Path.{◌≡◌, refl, sym, ap, ap₂, ◌∙◌}
use mathlib.Core.List.{List, [], ◌∷◌, map}
use Prim.Native.Nat.{ℕ, ◌+◌, ◌*◌, ◌/◌, ◌%◌, ◌<◌}
use native.Mathlib.Omega.{arith}
use native.Mathlib.Nat.{mul_assoc, mul_comm, add-mul, mul-add-div_right, mul-add-mod_self_right}
use Rattle.apportion.specs.declared.tie_rule.TieRule.{TieRule}
use Rattle.apportion.specs.declared.tie_rule.TieRule.TheVariants.{EarlierFirst, LargerFirst}
use Rattle.apportion.specs.Shares.{sum, quota, remainder, leftover, extras, added, Key, shares_by, key_by}

-- A key that knows the total by the remainder alone.
abbrev pub ByRemainder : Key → Type 0
ByRemainder key = (total total' whole w : ℕ) → remainder total whole w ≡ remainder total' whole w → key total whole w ≡ key total' whole w

abbrev pub turned : ℕ → List ℕ → List ℕ
turned q ws = map (λ w. q * w) ws

-- ---- one item
module _ (q r whole : ℕ) where
  product : (w : ℕ) → (q * whole + r) * w ≡ q * w * whole + r * w
  product w = add-mul (q * whole) r w ∙ ap (λ (x : ℕ). x + r * w) (mul_assoc q whole w ∙ ap (λ (x : ℕ). q * x) (mul_comm whole w) ∙ sym (mul_assoc q w whole))

  same-remainder : (w : ℕ) → remainder (q * whole + r) whole w ≡ remainder r whole w
  same-remainder w = ap (λ (x : ℕ). x % whole) (product w) ∙ mul-add-mod_self_right (q * w) whole (r * w)

  module _ (positive : 0 < whole) where
    quota-turned : (w : ℕ) → quota (q * whole + r) whole w ≡ q * w + quota r whole w
    quota-turned w = ap (λ (x : ℕ). x / whole) (product w) ∙ mul-add-div_right positive (q * w) (r * w)

    quotas-turned : (ws : List ℕ) → map (quota (q * whole + r) whole) ws ≡ added (turned q ws) (map (quota r whole) ws)
    quotas-turned [] = refl
    quotas-turned (w ∷ ws) = ap₂ ◌∷◌ (quota-turned w) (quotas-turned ws)

    sum-turned : (ws : List ℕ) → sum (map (quota (q * whole + r) whole) ws) ≡ q * sum ws + sum (map (quota r whole) ws)
    sum-turned [] = omega arith
    sum-turned (w ∷ ws) = omega (arith, quota-turned w, sum-turned ws)

  module _ (key : Key) (by : ByRemainder key) where
    same_keys : (ws : List ℕ) → map (key (q * whole + r) whole) ws ≡ map (key r whole) ws
    same_keys [] = refl
    same_keys (w ∷ ws) = ap₂ ◌∷◌ (by (q * whole + r) r whole w (same-remainder w)) (same_keys ws)

added-turned : (q : ℕ) (f : ℕ → ℕ) (ws xs : List ℕ) → added (added (turned q ws) (map f ws)) xs ≡ added (turned q ws) (added (map f ws) xs)
added-turned q f [] xs = refl
added-turned q f (w ∷ ws) [] = refl
added-turned q f (w ∷ ws) (x ∷ xs) = ap₂ ◌∷◌ (omega arith) (added-turned q f ws xs)

-- q TURNS AND A REST
pub turns : (key : Key) → ByRemainder key → (q r : ℕ) (ws : List ℕ) → 0 < sum ws → shares_by key (q * sum ws + r) ws ≡ added (turned q ws) (shares_by key r ws)
unfolding shares_by
turns key by q r ws positive =
    let total = q * sum ws + r in
    let left : leftover total ws ≡ leftover r ws = omega (arith, sum-turned q r (sum ws) positive ws) in
    let xs = extras (leftover r ws) [] (map (key r (sum ws)) ws) in
    rw (left, same_keys q r (sum ws) key by ws)
    (ap (λ (qs : List ℕ). added qs xs) (quotas-turned q r (sum ws) positive ws) ∙ added-turned q (quota r (sum ws)) ws xs)

pub key_by_remainder : (ties : TieRule) → ByRemainder (key_by ties)
key_by_remainder EarlierFirst total total' whole w e = e
key_by_remainder LargerFirst total total' whole w e = ap (λ (r : ℕ). r * (whole + 1) + w) e

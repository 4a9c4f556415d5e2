-- EVERY DIVISION IS FAIR, for any number of items and every key that ranks remainders. Assumes nothing.
use mathlib.Core.Path.{◌≡◌, refl, sym, ap, ap₂, ◌∙◌}
use mathlib.Core.List.{List, [], ◌∷◌, map}
use mathlib.Core.Logic.{inl, inr}
use Prim.Native.Nat.{ℕ, zero, suc, ◌+◌, ◌*◌, ◌/◌, ◌%◌, ◌≤◌, ◌<◌, min}
use native.Mathlib.Nat.{add-mul, mul-le-mul_right, mul-zero, zero-mul, zero-div, zero-mod, one-mul, div-add-mod', mod-lt}
use native.Mathlib.Decide.{dec_lt}
use native.Mathlib.Omega.{arith}
use lib.ListN.{length, get_or, length-map, replicate}
use Rattle.apportion.specs.declared.tie_rule.TieRule.{TieRule}
use Rattle.apportion.specs.declared.tie_rule.TieRule.TheVariants.{EarlierFirst, LargerFirst}
use Rattle.apportion.specs.Shares.{sum, quota, quotas, remainder, leftover, at_least, extras, added, Key, shares_by, remainder_then_weight, key_by}
use Rattle.apportion.specs.Fair.{RanksRemainders, EveryDivisionIsFair, SharesAreFair, LargerWeightFirst}
use Rattle.apportion.proofs.Counting.{bit-yes, bit_no, bit-cases, antitone}
use Rattle.apportion.proofs.Takers.{sum-extras, length-extras}
use Rattle.apportion.proofs.Leftover.{length-added, sum_added, get_d_added, item_le, get_or-map, quotas_le, leftover_le, leftover-fits}

-- ---- nothing to divide
all-zero : (f : ℕ → ℕ) → ((w : ℕ) → f w ≡ 0) → (ws : List ℕ) → map f ws ≡ replicate (length ws) 0
all-zero f z [] = refl
all-zero f z (w ∷ ws) = ap₂ (λ (x : ℕ) (xs : List ℕ). x ∷ xs) (z w) (all-zero f z ws)

quota-zero : (whole w : ℕ) → quota 0 whole w ≡ 0
quota-zero whole w = ap (λ (x : ℕ). x / whole) (zero-mul w) ∙ zero-div whole

no_extras : (earlier later : List ℕ) → extras 0 earlier later ≡ replicate (length later) 0
no_extras earlier [] = refl
no_extras earlier (k ∷ later) =
    ap₂ (λ (x : ℕ) (xs : List ℕ). x ∷ xs) (bit_no (suc (at_least k earlier + at_least (suc k) later)) 0 (omega arith)) (no_extras (k ∷ earlier) later)

pub added_none : (xs ys : List ℕ) → added xs (extras 0 [] ys) ≡ xs
added_none xs ys = ap (added xs) (no_extras [] ys) ∙ zeros xs (length ys)
  where
    zeros : (xs : List ℕ) (n : ℕ) → added xs (replicate n 0) ≡ xs
    zeros [] n = refl
    zeros (x ∷ xs) ℕ.zero = refl
    zeros (x ∷ xs) (suc n) = ap₂ (λ (y : ℕ) (ys : List ℕ). y ∷ ys) {y = x} (omega arith) (zeros xs n)

added-zeros : (n : ℕ) → added (replicate n 0) (replicate n 0) ≡ replicate n 0
added-zeros zero = refl
added-zeros (suc n) = ap (λ (xs : List ℕ). 0 ∷ xs) (added-zeros n)

sum_zeros : (n : ℕ) → sum (replicate n 0) ≡ 0
sum_zeros zero = refl
sum_zeros (suc n) = omega (arith, sum_zeros n)

-- ---- for every key
module _ (key : Key) where
  pub length-shares : (total : ℕ) (ws : List ℕ) → length (shares_by key total ws) ≡ length ws
  unfolding shares_by
  length-shares total ws = length-added (quotas total ws) (extras (leftover total ws) [] (map (key total (sum ws)) ws)) ∙ length-map ws (quota total (sum ws))

  not-longer : (total : ℕ) (ws : List ℕ) → length (extras (leftover total ws) [] (map (key total (sum ws)) ws)) ≤ length (quotas total ws)
  not-longer total ws = omega (arith, length-extras (leftover total ws) [] (map (key total (sum ws)) ws), length-map ws (key total (sum ws)), length-map ws (quota total (sum ws)))

  sum-shares : (total : ℕ) (ws : List ℕ) → 0 < sum ws → sum (shares_by key total ws) ≡ total
  unfolding shares_by
  sum-shares total ws hp =
      let ks = map (key total (sum ws)) ws in
      sum_added (quotas total ws) (extras (leftover total ws) [] ks) (not-longer total ws)
      ∙ omega (arith, sum-extras (leftover total ws) ks (omega (arith, leftover-fits total ws hp, length-map ws (key total (sum ws)))), quotas_le total (sum ws) hp ws (omega arith))

  pub shares-none : (ws : List ℕ) → shares_by key 0 ws ≡ replicate (length ws) 0
  unfolding shares_by
  shares-none ws =
      ap₂ added (all-zero (quota 0 (sum ws)) (quota-zero (sum ws)) ws)
      (ap (λ (x : ℕ). extras x [] (map (key 0 (sum ws)) ws)) {y = 0} (omega arith) ∙ no_extras [] (map (key 0 (sum ws)) ws) ∙ ap (λ (n : ℕ). replicate n 0) (length-map ws (key 0 (sum ws))))
      ∙ added-zeros (length ws)

  adds_up : (total : ℕ) (ws : List ℕ) → (sum ws ≡ 0 → total ≡ 0) → sum (shares_by key total ws) ≡ total
  adds_up total ws h =
      elim (dec_lt 0 (sum ws)) [
        | yes p ↦ sum-shares total ws p
        | no p ↦
            let z : total ≡ 0 = h (omega arith) in
            ap (λ (t : ℕ). sum (shares_by key t ws)) z ∙ ap sum (shares-none ws) ∙ sum_zeros (length ws) ∙ sym z
      ]

-- ---- for every key that ranks remainders: an item gets at most one of the leftover, and none without a remainder
module _ (key : Key) (ranks : RanksRemainders key) (total whole : ℕ) where
  ranked_after : (w : ℕ) → w ≤ whole → remainder total whole w ≡ 0 → (vs : List ℕ)
      → at_least 1 (map (remainder total whole) vs) ≤ at_least (suc (key total whole w)) (map (key total whole) vs)
  ranked_after w h z [] = omega arith
  ranked_after w h z (v ∷ vs) =
      let ih = ranked_after w h z vs in
      elim (bit-cases 1 (remainder total whole v)) [
        | inl a ↦ omega (arith, bit-yes (suc (key total whole w)) (key total whole v) (ranks total whole v w h z a.0))
        | inr a ↦ omega arith
      ]

  pub extra_le : (left : ℕ) (es ws : List ℕ) (i : ℕ) → ((j : ℕ) → get_or ws j 0 ≤ whole)
      → left ≤ at_least 1 (map (remainder total whole) es) + at_least 1 (map (remainder total whole) ws)
      → get_or (extras left (map (key total whole) es) (map (key total whole) ws)) i 0 ≤ min 1 (remainder total whole (get_or ws i 0))
  extra_le left es [] i b h = omega arith
  extra_le left es (w ∷ ws) zero b h =
      let k = key total whole w in
      let ks = map (key total whole) es in
      elim (bit-cases (suc (at_least k ks + at_least (suc k) (map (key total whole) ws))) left) [
        | inl a ↦
            elim (bit-cases 1 (remainder total whole w)) [
              | inl c ↦ omega arith
              | inr c ↦
                  let z : remainder total whole w ≡ 0 = omega arith in
                  absurd (omega (arith, ranked_after w (b 0) z es, ranked_after w (b 0) z ws, antitone k (suc k) ks (omega arith)))
            ]
        | inr a ↦ omega arith
      ]
  extra_le left es (w ∷ ws) (suc i) b h = extra_le left (w ∷ es) ws i (λ j. b (suc j)) (omega arith)

one_more : (e whole r : ℕ) → e ≤ min 1 r → 0 < whole → e * whole < r + whole
one_more zero whole r h hp = omega (arith, zero-mul whole)
one_more (suc zero) whole r h hp = omega (arith, one-mul whole)
one_more (suc (suc e)) whole r h hp = absurd (omega arith)

module _ (key : Key) (ranks : RanksRemainders key) (total : ℕ) (ws : List ℕ) (hp : 0 < sum ws) (i : ℕ) where
  abbrev product : ℕ
  product = total * get_or ws i 0

  -- each share is its quota, or one more, and that only where there is a remainder
  share_parts : (e : ℕ) × (get_or (shares_by key total ws) i 0 ≡ product / sum ws + e) × (e ≤ min 1 (product % sum ws))
  unfolding shares_by
  share_parts =
      let ks = map (key total (sum ws)) ws in
      let xs = extras (leftover total ws) [] ks in (
        get_or xs i 0,
        get_d_added (quotas total ws) xs i (not-longer key total ws)
            ∙ ap (λ (x : ℕ). x + get_or xs i 0) (get_or-map (quota total (sum ws)) ws i (ap (λ (x : ℕ). x / sum ws) (mul-zero total) ∙ zero-div (sum ws))),
        extra_le key ranks total (sum ws) (leftover total ws) [] ws i (item_le ws) (omega (arith, leftover_le total ws hp)),
      )

  share_near : (get_or (shares_by key total ws) i 0 * sum ws < product + sum ws) × (product < get_or (shares_by key total ws) i 0 * sum ws + sum ws)
  share_near =
      let p = share_parts in
      let m = ap (λ (x : ℕ). x * sum ws) p.1 ∙ add-mul (product / sum ws) p.0 (sum ws) in
      let d = div-add-mod' product (sum ws) in
      (omega (arith, one_more p.0 (sum ws) (product % sum ws) p.2 hp), omega (arith, mod-lt product hp))

  share-none : get_or ws i 0 ≡ 0 → get_or (shares_by key total ws) i 0 ≡ 0
  share-none e =
      let p = share_parts in
      let z : product ≡ 0 = ap (λ (x : ℕ). total * x) e ∙ mul-zero total in
      omega (arith, ap (λ (x : ℕ). x / sum ws) z ∙ zero-div (sum ws), ap (λ (x : ℕ). x % sum ws) z ∙ zero-mod (sum ws))

pub every_division_is_fair : EveryDivisionIsFair
every_division_is_fair key ranks total ws h =
    let sums = adds_up key total ws h in
    let most : (i : ℕ) → get_or (shares_by key total ws) i 0 ≤ total = λ i. omega (arith, item_le (shares_by key total ws) i) in
    record {
      as_many = length-shares key total ws;
      adds_up = sums;
      not_above_lem = λ hp i. (share_near key ranks total ws hp i).0;
      not-below = λ hp i. (share_near key ranks total ws hp i).1;
      none_for_none = λ i e. elim (dec_lt 0 (sum ws)) [ yes p ↦ share-none key ranks total ws p i e | no p ↦ omega (arith, most i, h (omega arith)) ];
      within-total = most;
    }

-- ---- both rules for ties
-- where the remainders are in order, so are the pairs
pairs_in_order : (total whole v w : ℕ) → w ≤ whole → remainder total whole w < remainder total whole v → remainder_then_weight total whole w < remainder_then_weight total whole v
pairs_in_order total whole v w h r =
    omega (arith, mul-le-mul_right (whole + 1) r, add-mul (remainder total whole w) 1 (whole + 1), one-mul (whole + 1))

pub larger_weight_first : LargerWeightFirst
larger_weight_first total whole v w hv hw =
    let r = remainder total whole in
    let level : r w ≡ r v → r w * (whole + 1) ≡ r v * (whole + 1) = ap (λ (x : ℕ). x * (whole + 1)) in record {
      if = λ h. elim h [ inl a ↦ pairs_in_order total whole v w hw a | inr a ↦ omega (arith, level a.0) ];
      only_if_lem = λ h.
          elim (dec_lt (r w) (r v)) [
            | yes a ↦ inl a
            | no a ↦
                elim (dec_lt (r v) (r w)) [
                  | yes b ↦ absurd (omega (arith, pairs_in_order total whole w v hv b))
                  | no b ↦ let e : r w ≡ r v = omega arith in inr (e, omega (arith, level e))
                ]
          ];
    }

pub key_ranks : (ties : TieRule) → RanksRemainders (key_by ties)
key_ranks EarlierFirst total whole v w h z p = omega arith
key_ranks LargerFirst total whole v w h z p = pairs_in_order total whole v w h (omega arith)

pub shares-fair : SharesAreFair
shares-fair ties total ws h = every_division_is_fair (key_by ties) (key_ranks ties) total ws h

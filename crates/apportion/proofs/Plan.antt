-- What `apportion` knows once the quotas are written, and when there is nothing to divide. Assumes nothing.
use mathlib.Core.Path.{◌≡◌, refl, sym, ap, ap₂, ◌∙◌}
use mathlib.Core.List.{List, [], map}
use Prim.Native.Nat.{ℕ, ◌*◌, ◌-◌, ◌%◌, ◌^◌, ◌≤◌, ◌<◌}
use native.Mathlib.Nat.{mul-zero, zero-mod}
use native.Mathlib.Omega.{arith}
use lib.ListN.{length, get_or, length-map, replicate}
use Rattle.apportion.specs.declared.tie_rule.TieRule.{TieRule}
use Rattle.apportion.specs.declared.tie_rule.TieRule.TheVariants.{EarlierFirst, LargerFirst}
use Rattle.apportion.specs.Shares.{sum, quota, quotas, remainder, leftover, at_least, extras, added, shares_by, key_by, shares}
use Rattle.apportion.specs.Inner.Selection.{largest, RoundedDown, paired, NoneForNone}
use Rattle.apportion.proofs.Leftover.{quotas_le, largest_lt, leftover_le, item_le, get_or-map}
use Rattle.apportion.proofs.Laws.{added_none, shares-none}
use Rattle.apportion.proofs.Tied.{pairs_of}

-- ---- nothing to divide
pub none_shared : (ties : TieRule) (total : ℕ) (ws : List ℕ) (n : ℕ) → total ≡ 0 → n ≡ length ws → replicate n 0 ≡ shares ties total ws
none_shared ties total ws n z e =
    ap (λ (k : ℕ). replicate k 0) e ∙ sym (shares-none (key_by ties) ws) ∙ ap (λ (t : ℕ). shares ties t ws) (sym z)

-- ---- the quotas are written
module _ (total : ℕ) {down top positive : ℕ} (ws : List ℕ) {rests out : List ℕ} (hp : 0 < sum ws) (d : RoundedDown total (sum ws) ws down top positive rests out) where
  is-leftover : total - down ≡ leftover total ws
  is-leftover = ap (λ (x : ℕ). total - x) d.is_sum

  pub down_le : down ≤ total
  down_le = omega (arith, d.is_sum, quotas_le total (sum ws) hp ws (omega arith))

  left_le : total - down ≤ positive
  left_le = omega (arith, is-leftover, leftover_le total ws hp, d.is_positive)

  positive-count : positive ≡ at_least 1 rests
  positive-count = d.is_positive ∙ ap (at_least 1) (sym d.is-remainders)

  top_largest : top ≡ largest rests
  top_largest = d.is-largest ∙ ap largest (sym d.is-remainders)

  top_under : top < sum ws
  top_under = omega (arith, d.is-largest, largest_lt total (sum ws) hp ws)

  -- what is left over is at most one for each remainder above 0
  pub some-left : 0 < total - down → sum ws < 2 ^ 62
      → (0 < total - down) × (total - down ≤ positive) × (positive ≡ at_least 1 rests) × (top ≡ largest rests) × (top < 2 ^ 62)
  some-left h fits = (h, left_le, positive-count, top_largest, omega (arith, top_under))

  pub rests_length : length rests ≡ length ws
  rests_length = ap length d.is-remainders ∙ length-map ws (remainder total (sum ws))

  pub out_length : length out ≡ length ws
  out_length = ap length d.is-quotas ∙ length-map ws (quota total (sum ws))

  pub out_le : (j : ℕ) → get_or out j 0 ≤ down
  out_le j = omega (arith, item_le out j, ap sum d.is-quotas, d.is_sum)

  -- an item without a weight has no remainder
  pub none_for_none : NoneForNone ws rests
  none_for_none j e =
      ap (λ (ks : List ℕ). get_or ks j 0) d.is-remainders
      ∙ get_or-map (remainder total (sum ws)) ws j (no_weight 0 refl)
      ∙ no_weight (get_or ws j 0) e
    where
      no_weight : (w : ℕ) → w ≡ 0 → remainder total (sum ws) w ≡ 0
      no_weight w e = ap (λ (x : ℕ). x % sum ws) (ap (λ (x : ℕ). total * x) e ∙ mul-zero total) ∙ zero-mod (sum ws)

  -- the leftover given by the keys of a rule
  by_keys : (ties : TieRule) {ks last : List ℕ} → ks ≡ map (key_by ties total (sum ws)) ws → last ≡ added out (extras (total - down) [] ks) → last ≡ shares ties total ws
  unfolding shares_by
  by_keys ties e l =
      l
      ∙ ap₂ (λ (x y : List ℕ). added x (extras (total - down) [] y)) d.is-quotas e
      ∙ ap (λ (x : ℕ). added (quotas total ws) (extras x [] (map (key_by ties total (sum ws)) ws))) is-leftover

  pub by_remainder : {last : List ℕ} → last ≡ added out (extras (total - down) [] rests) → last ≡ shares EarlierFirst total ws
  by_remainder = by_keys EarlierFirst d.is-remainders

  pub by_pair : {last : List ℕ} → last ≡ added out (extras (total - down) [] (paired (sum ws) rests ws)) → last ≡ shares LargerFirst total ws
  by_pair = by_keys LargerFirst (ap (λ (ks : List ℕ). paired (sum ws) ks ws) d.is-remainders ∙ sym (pairs_of total (sum ws) ws))

  pub without_leftover : (ties : TieRule) → total - down ≡ 0 → out ≡ shares ties total ws
  without_leftover ties z =
      let ks = map (key_by ties total (sum ws)) ws in
      by_keys ties {ks = ks} refl (sym (added_none out ks) ∙ ap (λ (x : ℕ). added out (extras x [] ks)) (sym z))

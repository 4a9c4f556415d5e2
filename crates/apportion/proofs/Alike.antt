-- Where the two rules for ties divide alike. Assumes nothing.
use mathlib.Core.Path.{◌≡◌, refl, ap, ap₂}
use mathlib.Core.List.{List, [], ◌∷◌, map}
use mathlib.Core.Logic.{inl, inr}
use Prim.Native.Nat.{ℕ, zero, suc, ◌+◌, ◌*◌, ◌≤◌, ◌<◌}
use native.Mathlib.Nat.{mul-one}
use native.Mathlib.Decide.{dec_lt}
use native.Mathlib.Omega.{arith}
use lib.Dec.{ltb}
use lib.ListN.{length, get_or}
use Rattle.apportion.specs.declared.tie_rule.TieRule.TheVariants.{EarlierFirst, LargerFirst}
use Rattle.apportion.specs.Shares.{sum, bit, quotas, remainder, leftover, at_least, extras, added, shares_by, remainder_then_weight, key_by}
use Rattle.apportion.specs.Fair.{AlikeButForTies}
use Rattle.apportion.proofs.Counting.{bit-yes, bit_no}
use Rattle.apportion.proofs.Leftover.{item_le, leftover_le}
use Rattle.apportion.proofs.Laws.{extra_le, larger_weight_first, key_ranks}

module _ (total whole : ℕ) where
  abbrev rest : ℕ → ℕ
  rest = remainder total whole

  abbrev pair : ℕ → ℕ
  pair = remainder_then_weight total whole

  -- v may stand before w: of the same remainder above 0 w isn't the larger
  abbrev Before : ℕ → ℕ → Type 0
  Before v w = 0 < rest v → rest v ≡ rest w → w ≤ v

  -- then the pairs lie as the remainders do
  not_after : (v w : ℕ) → v ≤ whole → w ≤ whole → Before v w → 0 < rest w → rest w ≤ rest v → pair w ≤ pair v
  not_after v w a b h p r =
      elim (dec_lt (pair v) (pair w)) [
        | yes c ↦
            elim ((larger_weight_first total whole w v b a).only_if_lem c) [
              | inl d ↦ absurd (omega arith)
              | inr d ↦ absurd (omega (arith, h (omega arith) d.0))
            ]
        | no c ↦ omega arith
      ]

  after : (v w : ℕ) → v ≤ whole → w ≤ whole → rest v < rest w → pair v < pair w
  after v w a b r = (larger_weight_first total whole w v b a).if (inl r)

  -- the earlier items that reach w, and the later ones above it
  module _ (w : ℕ) (b : w ≤ whole) (p : 0 < rest w) where
    earlier-count : (es : List ℕ) → ((i : ℕ) → get_or es i 0 ≤ whole) → ((i : ℕ) → i < length es → Before (get_or es i 0) w)
        → at_least (pair w) (map pair es) ≡ at_least (rest w) (map rest es)
    earlier-count [] a h = refl
    earlier-count (e ∷ es) a h =
        let ih = earlier-count es (λ i. a (suc i)) (λ i g. h (suc i) (omega arith)) in
        elim (dec_lt (rest e) (rest w)) [
          | yes c ↦ omega (arith, ih, bit_no (rest w) (rest e) c, bit_no (pair w) (pair e) (after e w (a 0) b c))
          | no c ↦ omega (arith, ih, bit-yes (rest w) (rest e) (omega arith), bit-yes (pair w) (pair e) (not_after e w (a 0) b (h 0 (omega arith)) p (omega arith)))
        ]

    later-count : (ls : List ℕ) → ((i : ℕ) → get_or ls i 0 ≤ whole) → ((i : ℕ) → i < length ls → Before w (get_or ls i 0))
        → at_least (suc (pair w)) (map pair ls) ≡ at_least (suc (rest w)) (map rest ls)
    later-count [] a h = refl
    later-count (l ∷ ls) a h =
        let ih = later-count ls (λ i. a (suc i)) (λ i g. h (suc i) (omega arith)) in
        elim (dec_lt (rest w) (rest l)) [
          | yes c ↦ omega (arith, ih, bit-yes (suc (rest w)) (rest l) c, bit-yes (suc (pair w)) (pair l) (after w l b (a 0) c))
          | no c ↦ omega (arith, ih, bit_no (suc (rest w)) (rest l) (omega arith), bit_no (suc (pair w)) (pair l) (omega (arith, below l (a 0) (h 0 (omega arith)) (omega arith))))
        ]
      where
        below : (l : ℕ) → l ≤ whole → Before w l → rest l ≤ rest w → pair l ≤ pair w
        below l c h r =
            elim (dec_lt 0 (rest l)) [
              | yes q ↦ not_after w l b c h q r
              | no q ↦ omega (arith, after l w c b (omega arith))
            ]

  -- by both keys an item without a remainder gets none
  same-extras : (left : ℕ) (es ls : List ℕ) → ((i : ℕ) → get_or es i 0 ≤ whole) → ((i : ℕ) → get_or ls i 0 ≤ whole)
      → left ≤ at_least 1 (map rest es) + at_least 1 (map rest ls)
      → ((i j : ℕ) → i < length es → j < length ls → Before (get_or es i 0) (get_or ls j 0))
      → ((i j : ℕ) → i < j → j < length ls → Before (get_or ls i 0) (get_or ls j 0))
      → extras left (map pair es) (map pair ls) ≡ extras left (map rest es) (map rest ls)
  same-extras left es [] a b n h g = refl
  same-extras left es (w ∷ ls) a b n h g =
      ap₂ (λ (x : ℕ) (xs : List ℕ). x ∷ xs) same-first
      (same-extras left (w ∷ es) ls (with_first (b 0) a) (λ i. b (suc i)) (omega arith) (λ i j k m. crossed i j k m) (λ i j k m. g (suc i) (suc j) (omega arith) (omega arith)))
    where
      same-first : bit (ltb (at_least (pair w) (map pair es) + at_least (suc (pair w)) (map pair ls)) left) ≡ bit (ltb (at_least (rest w) (map rest es) + at_least (suc (rest w)) (map rest ls)) left)
      same-first =
          elim (dec_lt 0 (rest w)) [
            | yes p ↦
                ap₂ (λ (x y : ℕ). bit (ltb (x + y) left)) (earlier-count w (b 0) p es a (λ i k. h i 0 k (omega arith)))
                (later-count w (b 0) p ls (λ i. b (suc i)) (λ i k. g 0 (suc i) (omega arith) (omega arith)))
            | no p ↦ omega (arith, extra_le (key_by LargerFirst) (key_ranks LargerFirst) total whole left es (w ∷ ls) 0 b n, extra_le (key_by EarlierFirst) (key_ranks EarlierFirst) total whole left es (w ∷ ls) 0 b n)
          ]

      with_first : w ≤ whole → ((i : ℕ) → get_or es i 0 ≤ whole) → (i : ℕ) → get_or (w ∷ es) i 0 ≤ whole
      with_first p q zero = p
      with_first p q (suc i) = q i

      crossed : (i j : ℕ) → i < suc (length es) → j < length ls → Before (get_or (w ∷ es) i 0) (get_or ls j 0)
      crossed zero j k m = g 0 (suc j) (omega arith) (omega arith)
      crossed (suc i) j k m = h i (suc j) (omega arith) (omega arith)

-- where all weights are 0 the pairs are the remainders
no_weights : (total whole : ℕ) → whole ≡ 0 → (ws : List ℕ) → sum ws ≡ 0 → map (remainder_then_weight total whole) ws ≡ map (remainder total whole) ws
no_weights total whole z [] e = refl
no_weights total whole z (w ∷ ws) e =
    ap₂ ◌∷◌ (omega (arith, ap (λ (x : ℕ). remainder total whole w * (x + 1)) z, mul-one (remainder total whole w))) (no_weights total whole z ws (omega arith))

pub alike_but_for_ties : AlikeButForTies
unfolding shares_by
alike_but_for_ties total ws h =
    ap (added (quotas total ws)) (elim (dec_lt 0 (sum ws)) [
      | yes p ↦ same-extras total (sum ws) (leftover total ws) [] ws (λ i. omega arith) (item_le ws) (omega (arith, leftover_le total ws p)) (λ i j k. absurd (omega arith)) h
      | no p ↦ ap (extras (leftover total ws) []) (no_weights total (sum ws) (omega arith) ws (omega arith))
    ])

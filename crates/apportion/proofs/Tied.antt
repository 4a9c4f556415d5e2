-- A threshold of the keys, then one of the weights at it: together they are a threshold of the pairs of key and weight. Assumes nothing.
use mathlib.Core.Path.{◌≡◌, refl, sym, ap, ap₂, ◌∙◌}
use mathlib.Core.List.{List, [], ◌∷◌, map, zip_with}
use Prim.Native.Nat.{ℕ, suc, ◌+◌, ◌*◌, ◌-◌, ◌≤◌, ◌<◌}
use native.Mathlib.Nat.{add-mul, one-mul, mul-le-mul_right}
use native.Mathlib.Decide.{dec_lt}
use native.Mathlib.Omega.{arith}
use borrow.Author.Tests.{eq-eqb, ne_eqb}
use lib.Dec.{leb, ltb}
use lib.ListN.{length}
use Rattle.apportion.specs.Shares.{bit, sum, remainder, at_least, extras, added, remainder_then_weight}
use Rattle.apportion.specs.Inner.Selection.{largest, Threshold, Cuts, one, spare_after, given, weight_at, tied, paired, NoneForNone}
use Rattle.apportion.proofs.Counting.{bit-yes, bit_no, no_higher}
use Rattle.apportion.proofs.Takers.{case, above, level, under, threshold, extras-given}
use Rattle.apportion.proofs.Laws.{added_none}

-- the keys of the rule by weight are the pairs of remainder and weight
pub pairs_of : (total whole : ℕ) (ws : List ℕ) → map (remainder_then_weight total whole) ws ≡ paired whole (map (remainder total whole) ws) ws
unfolding zip_with
pairs_of total whole [] = refl
pairs_of total whole (w ∷ ws) = ap (λ (ks : List ℕ). remainder_then_weight total whole w ∷ ks) (pairs_of total whole ws)

-- ---- what a threshold gives a key above it, at it and below it
one-above : (θ s k : ℕ) → θ < k → (one θ s k ≡ 1) × (spare_after θ s k ≡ s)
one-above θ s k h = elim (case θ s k) [ above a p q e f ↦ (e, f) | level a b p q e f ↦ absurd (omega arith) | under a p q e f ↦ absurd (omega arith) ]

one_at : (θ s k : ℕ) → k ≡ θ → (one θ s k ≡ bit (ltb 0 s)) × (spare_after θ s k ≡ s - 1)
one_at θ s k h = elim (case θ s k) [ above a p q e f ↦ absurd (omega arith) | level a b p q e f ↦ (e, f) | under a p q e f ↦ absurd (omega arith) ]

one_below : (θ s k : ℕ) → k < θ → (one θ s k ≡ 0) × (spare_after θ s k ≡ s)
one_below θ s k h = elim (case θ s k) [ above a p q e f ↦ absurd (omega arith) | level a b p q e f ↦ absurd (omega arith) | under a p q e f ↦ (e, f) ]

module _ (whole θ : ℕ) where
  -- the pair of θ and no weight
  abbrev base : ℕ
  base = θ * (whole + 1)

  -- an item above, at or below θ: its weight at θ, and its pair
  data Place (k w : ℕ) : Type 0 where
    over : θ < k → weight_at θ k w ≡ 0 → base + whole < k * (whole + 1) + w → Place k w
    even : k ≡ θ → weight_at θ k w ≡ w → k * (whole + 1) + w ≡ base + w → Place k w
    short : k < θ → weight_at θ k w ≡ 0 → k * (whole + 1) + w < base → Place k w

  place : (k w : ℕ) → w ≤ whole → Place k w
  place k w h =
      elim (dec_lt θ k) [
        | yes a ↦ over a (rw (ne_eqb k θ (λ z. omega arith))) (omega (arith, mul-le-mul_right (whole + 1) a, add-mul 1 θ (whole + 1), one-mul (whole + 1)))
        | no a ↦
            elim (dec_lt k θ) [
              | yes b ↦ short b (rw (ne_eqb k θ (λ z. omega arith))) (omega (arith, mul-le-mul_right (whole + 1) b, add-mul 1 k (whole + 1), one-mul (whole + 1)))
              | no b ↦ let e : k ≡ θ = omega arith in even e (rw (eq-eqb k θ e)) (ap (λ (x : ℕ). x * (whole + 1) + w) e)
            ]
      ]

  -- the pairs that reach θ with some weight: those of the keys above θ, and those at θ whose weight does
  reach : (m : ℕ) → 0 < m → m ≤ whole + 1 → (ks ws : List ℕ) → length ks ≡ length ws → sum ws ≤ whole
      → at_least (base + m) (paired whole ks ws) ≡ at_least (suc θ) ks + at_least m (tied θ ks ws)
  unfolding zip_with
  reach m p h [] [] e b = refl
  reach m p h [] (w ∷ ws) e b = absurd (omega arith)
  reach m p h (k ∷ ks) [] e b = absurd (omega arith)
  reach m p h (k ∷ ks) (w ∷ ws) e b =
      let ih = reach m p h ks ws (omega arith) (omega arith) in
      let pair = k * (whole + 1) + w in
      elim (place k w (omega arith)) [
        | over a t g ↦ omega (arith, ih, bit-yes (base + m) pair (omega arith), bit-yes (suc θ) k a, bit_no m (weight_at θ k w) (omega arith))
        | even a t g ↦ omega (arith, ih, bit_no (suc θ) k (omega arith), same m pair (weight_at θ k w) (omega arith))
        | short a t g ↦ omega (arith, ih, bit_no (base + m) pair (omega arith), bit_no (suc θ) k (omega arith), bit_no m (weight_at θ k w) (omega arith))
      ]
    where
      same : (m pair w : ℕ) → pair ≡ base + w → bit (leb (base + m) pair) ≡ bit (leb m w)
      same m pair w e =
          elim (dec_lt w m) [
            | yes a ↦ bit_no (base + m) pair (omega arith) ∙ sym (bit_no m w a)
            | no a ↦ bit-yes (base + m) pair (omega arith) ∙ sym (bit-yes m w (omega arith))
          ]

  -- what a threshold of the pairs gives an item: one above θ, and at θ what a threshold of the weights gives it
  both_one : (ψ s k w : ℕ) → 0 < ψ → ψ ≤ whole → w ≤ whole
      → (one (base + ψ) s (k * (whole + 1) + w) ≡ one θ 0 k + one ψ s (weight_at θ k w))
      × (spare_after (base + ψ) s (k * (whole + 1) + w) ≡ spare_after ψ s (weight_at θ k w))
      × (spare_after θ 0 k ≡ 0)
  both_one ψ s k w p h b =
      let pair = k * (whole + 1) + w in
      let t = weight_at θ k w in
      elim (place k w b) [
        | over a e g ↦ omega (arith, one-above (base + ψ) s pair (omega arith), one-above θ 0 k a, one_below ψ s t (omega arith))
        | even a e g ↦
            let none = one_at θ 0 k a in
            elim (dec_lt ψ w) [
              | yes c ↦ omega (arith, none, one-above (base + ψ) s pair (omega arith), one-above ψ s t (omega arith))
              | no c ↦
                  elim (dec_lt w ψ) [
                    | yes d ↦ omega (arith, none, one_below (base + ψ) s pair (omega arith), one_below ψ s t (omega arith))
                    | no d ↦ omega (arith, none, one_at (base + ψ) s pair (omega arith), one_at ψ s t (omega arith))
                  ]
            ]
        | short a e g ↦ omega (arith, one_below (base + ψ) s pair (omega arith), one_below θ 0 k a, one_below ψ s t (omega arith))
      ]

  given_pairs : (ψ s : ℕ) → 0 < ψ → ψ ≤ whole → (xs ks ws : List ℕ) → length ks ≡ length ws → sum ws ≤ whole
      → added (added xs (given θ 0 ks)) (given ψ s (tied θ ks ws)) ≡ added xs (given (base + ψ) s (paired whole ks ws))
  unfolding zip_with
  given_pairs ψ s p h [] ks ws e b = refl
  given_pairs ψ s p h (x ∷ xs) [] [] e b = refl
  given_pairs ψ s p h (x ∷ xs) [] (w ∷ ws) e b = absurd (omega arith)
  given_pairs ψ s p h (x ∷ xs) (k ∷ ks) [] e b = absurd (omega arith)
  given_pairs ψ s p h (x ∷ xs) (k ∷ ks) (w ∷ ws) e b =
      let o = both_one ψ s k w p h (omega arith) in
      let r = spare_after ψ s (weight_at θ k w) in
      ap₂ (λ (y : ℕ) (ys : List ℕ). y ∷ ys) {y = x + one (base + ψ) s (k * (whole + 1) + w)} (omega (arith, o.0))
      (ap (λ (z : ℕ). added (added xs (given θ z ks)) (given ψ r (tied θ ks ws))) o.2
      ∙ given_pairs ψ r p h xs ks ws (omega arith) (omega arith)
      ∙ ap (λ (z : ℕ). added xs (given (base + ψ) z (paired whole ks ws))) (sym o.1))

-- ---- the weights at θ
pub tied_le : (θ : ℕ) (ks ws : List ℕ) → largest (tied θ ks ws) ≤ sum ws
unfolding zip_with
tied_le θ [] ws = omega arith
tied_le θ (k ∷ ks) [] = omega arith
tied_le θ (k ∷ ks) (w ∷ ws) =
    elim (place w θ k w (omega arith)) [ over a e g ↦ omega (arith, tied_le θ ks ws) | even a e g ↦ omega (arith, tied_le θ ks ws) | short a e g ↦ omega (arith, tied_le θ ks ws) ]

-- all keys at θ have a weight
has_weight : (k w : ℕ) → (w ≡ 0 → k ≡ 0) → 0 < k → 0 < w
has_weight k w z h = elim (dec_lt 0 w) [ yes a ↦ a | no a ↦ absurd (omega (arith, z (omega arith))) ]

all-tied : (θ : ℕ) → 0 < θ → (ks ws : List ℕ) → length ks ≡ length ws → NoneForNone ws ks → at_least θ ks ≡ at_least (suc θ) ks + at_least 1 (tied θ ks ws)
unfolding zip_with
all-tied θ p [] ws e n = refl
all-tied θ p (k ∷ ks) [] e n = absurd (omega arith)
all-tied θ p (k ∷ ks) (w ∷ ws) e n =
    let ih = all-tied θ p ks ws (omega arith) (λ j. n (suc j)) in
    let t = weight_at θ k w in
    elim (place w θ k w (omega arith)) [
      | over a f g ↦ omega (arith, ih, bit-yes θ k (omega arith), bit-yes (suc θ) k a, bit_no 1 t (omega arith))
      | even a f g ↦ omega (arith, ih, bit-yes θ k (omega arith), bit_no (suc θ) k (omega arith), bit-yes 1 t (omega (arith, has_weight k w (n 0) (omega arith))))
      | short a f g ↦ omega (arith, ih, bit_no θ k a, bit_no (suc θ) k (omega arith), bit_no 1 t (omega arith))
    ]

-- ---- the leftover by a threshold of the keys, then by the weights at it
module _ (left θ spare : ℕ) (ks ws : List ℕ) (cut : Cuts left θ spare ks) (few : left ≤ at_least 1 ks) (e : length ks ≡ length ws) (n : NoneForNone ws ks) where
  abbrev ts : List ℕ
  ts = tied θ ks ws

  pub enough-tied : spare ≤ at_least 1 ts
  enough-tied =
      elim (dec_lt 0 θ) [
        | yes p ↦ omega (arith, all-tied θ p ks ws e n)
        | no p ↦ omega (arith, ap (λ (x : ℕ). at_least (suc x) ks) {x = θ} {y = 0} (omega arith))
      ]

  -- with a threshold ψ of the weights at θ
  by_thresholds : (ψ : ℕ) → 0 < ψ → ψ ≤ sum ws → Threshold spare ψ ts → (out : List ℕ)
      → added (added out (given θ 0 ks)) (extras spare [] ts) ≡ added out (extras left [] (paired (sum ws) ks ws))
  by_thresholds ψ p h t out =
      let pairs = paired (sum ws) ks ws in
      let φ = base (sum ws) θ + ψ in
      let at = reach (sum ws) θ ψ p (omega arith) ks ws e (omega arith) in
      let past = reach (sum ws) θ (suc ψ) (omega arith) (omega arith) ks ws e (omega arith) in
      let next : at_least (suc φ) pairs ≡ at_least (suc θ) ks + at_least (suc ψ) ts = ap (λ (x : ℕ). at_least x pairs) {y = base (sum ws) θ + suc ψ} (omega arith) ∙ past in
      ap (added (added out (given θ 0 ks))) (extras-given spare ψ ts t)
      ∙ given_pairs (sum ws) θ ψ (spare - at_least (suc ψ) ts) p h out ks ws e (omega arith)
      ∙ ap (λ (r : ℕ). added out (given φ r pairs)) {y = left - at_least (suc φ) pairs} (omega (arith, next))
      ∙ ap (added out) (sym (extras-given left φ pairs (omega (arith, next), omega (arith, at, t))))

  -- BY KEY, THEN BY WEIGHT, THEN TO THE EARLIER
  pub by_weight : (out : List ℕ) {mid last : List ℕ} → 0 < sum ws → mid ≡ added out (given θ 0 ks) → last ≡ added mid (extras spare [] ts)
      → last ≡ added out (extras left [] (paired (sum ws) ks ws))
  by_weight out hp m l =
      let t = threshold spare ts 1 (sum ws - 1) (omega (arith, no_higher (suc (1 + (sum ws - 1))) ts (omega (arith, tied_le θ ks ws)))) enough-tied in
      l ∙ ap (λ (xs : List ℕ). added xs (extras spare [] ts)) m ∙ by_thresholds t.0 t.1 (omega (arith, t.2)) t.3 out

  -- with none to spare the keys above θ are all that get one
  pub none_spared : (out : List ℕ) {mid : List ℕ} → 0 < sum ws → spare ≡ 0 → mid ≡ added out (given θ 0 ks) → mid ≡ added out (extras left [] (paired (sum ws) ks ws))
  none_spared out {mid} hp z m = by_weight out hp m (sym (added_none mid ts) ∙ ap (λ (x : ℕ). added mid (extras x [] ts)) (sym z))

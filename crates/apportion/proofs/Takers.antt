-- Who gets the leftover, by a threshold: no sorting. Assumes nothing.
use mathlib.Core.Path.{◌≡◌, refl, sym, ap, ap₂, ◌∙◌}
use mathlib.Core.List.{List, [], ◌∷◌}
use mathlib.Core.Logic.{inl, inr}
use Prim.Native.Nat.{ℕ, zero, suc, ◌+◌, ◌-◌, ◌≤◌, ◌<◌, min}
use native.Mathlib.Decide.{dec_le}
use native.Mathlib.Omega.{arith}
use borrow.Author.Tests.{le-leb, lt-leb}
use lib.Dec.{leb, ltb}
use lib.ListN.{length}
use Rattle.apportion.specs.Shares.{bit, sum, at_least, extras}
use Rattle.apportion.specs.Inner.Selection.{largest, Threshold, one, spare_after, given}
use Rattle.apportion.proofs.Counting.{bit-yes, bit_no, bit-cases, bit-min, antitone, at_zero, no_higher}

-- a key above, at or below θ, with its bits and what it is given
pub data Case (θ spare k : ℕ) : Type 0 where
  above : suc θ ≤ k → bit (leb θ k) ≡ 1 → bit (leb (suc θ) k) ≡ 1 → one θ spare k ≡ 1 → spare_after θ spare k ≡ spare → Case θ spare k
  level : θ ≤ k → k ≤ θ → bit (leb θ k) ≡ 1 → bit (leb (suc θ) k) ≡ 0 → one θ spare k ≡ bit (ltb 0 spare) → spare_after θ spare k ≡ spare - 1 → Case θ spare k
  under : k < θ → bit (leb θ k) ≡ 0 → bit (leb (suc θ) k) ≡ 0 → one θ spare k ≡ 0 → spare_after θ spare k ≡ spare → Case θ spare k

pub case : (θ spare k : ℕ) → Case θ spare k
case θ spare k =
    elim (dec_le (suc θ) k) [
      | yes h ↦ above h (bit-yes θ k (omega arith)) (bit-yes (suc θ) k h) (rw (le-leb (suc θ) k h)) (rw (le-leb (suc θ) k h))
      | no h ↦
          let past = lt-leb (suc θ) k (omega arith) in
          elim (dec_le θ k) [
            | yes g ↦ level g (omega arith) (bit-yes θ k g) (bit_no (suc θ) k (omega arith)) (rw (past, le-leb θ k g)) (rw (past, le-leb θ k g))
            | no g ↦ let short = lt-leb θ k (omega arith) in under (omega arith) (bit_no θ k (omega arith)) (bit_no (suc θ) k (omega arith)) (rw (past, short)) (rw (past, short))
          ]
    ]

same_bit : (x left spare : ℕ) → spare ≡ left - x → bit (ltb x left) ≡ bit (ltb 0 spare)
same_bit x left spare e =
    elim (bit-cases (suc x) left) [ inl a ↦ a.1 ∙ sym (bit-yes 1 spare (omega arith)) | inr a ↦ a.1 ∙ sym (bit_no 1 spare (omega arith)) ]

-- one item: the bit of its rank is what the threshold gives
rank_bit : (left θ spare k : ℕ) (earlier later : List ℕ)
    → at_least (suc θ) earlier + (bit (leb (suc θ) k) + at_least (suc θ) later) ≤ left
    → left ≤ at_least θ earlier + (bit (leb θ k) + at_least θ later)
    → spare ≡ left - (at_least θ earlier + (bit (leb (suc θ) k) + at_least (suc θ) later))
    → bit (ltb (at_least k earlier + at_least (suc k) later) left) ≡ one θ spare k
rank_bit left θ spare k earlier later a b s =
    let rank = at_least k earlier + at_least (suc k) later in
    elim (case θ spare k) [
      | above h p q e f ↦ bit-yes (suc rank) left (omega (arith, antitone (suc θ) k earlier h, antitone (suc θ) (suc k) later (omega arith))) ∙ sym e
      | level h g p q e f ↦
          same_bit rank left spare
          (omega (arith, antitone θ k earlier h, antitone k θ earlier g, antitone (suc θ) (suc k) later (omega arith), antitone (suc k) (suc θ) later (omega arith)))
          ∙ sym e
      | under h p q e f ↦ bit_no (suc rank) left (omega (arith, antitone k θ earlier (omega arith), antitone (suc k) θ later h)) ∙ sym e
    ]

next_spare : (left θ spare k x y : ℕ) → spare ≡ left - (x + (bit (leb (suc θ) k) + y)) → spare_after θ spare k ≡ left - (bit (leb θ k) + x + y)
next_spare left θ spare k x y s = elim (case θ spare k) [ above h p q e f ↦ omega arith | level h g p q e f ↦ omega arith | under h p q e f ↦ omega arith ]

by-threshold : (left θ spare : ℕ) (earlier later : List ℕ)
    → at_least (suc θ) earlier + at_least (suc θ) later ≤ left
    → left ≤ at_least θ earlier + at_least θ later
    → spare ≡ left - (at_least θ earlier + at_least (suc θ) later)
    → extras left earlier later ≡ given θ spare later
by-threshold left θ spare earlier [] a b s = refl
by-threshold left θ spare earlier (k ∷ later) a b s =
    ap₂ (λ (x : ℕ) (xs : List ℕ). x ∷ xs) (rank_bit left θ spare k earlier later a b s)
    (by-threshold left θ (spare_after θ spare k) (k ∷ earlier) later (omega arith) (omega arith) (next_spare left θ spare k (at_least θ earlier) (at_least (suc θ) later) s))

-- THE THRESHOLD GIVES THE LEFTOVER TO THE RIGHT ITEMS
pub extras-given : (left θ : ℕ) (ks : List ℕ) → Threshold left θ ks → extras left [] ks ≡ given θ (left - at_least (suc θ) ks) ks
extras-given left θ ks h = by-threshold left θ (left - at_least (suc θ) ks) [] ks (omega arith) (omega arith) (omega arith)

-- ---- there is a threshold, and it gives out just the leftover
pub threshold : (left : ℕ) (ks : List ℕ) (from more : ℕ) → at_least (suc (from + more)) ks ≤ left → left ≤ at_least from ks
    → (θ : ℕ) × (from ≤ θ) × (θ ≤ from + more) × Threshold left θ ks
threshold left ks from zero a b = (from, omega arith, omega arith, (omega (arith, ap (λ (m : ℕ). at_least (suc m) ks) {x = from + 0} {y = from} (omega arith)), b))
threshold left ks from (suc m) a b =
    elim (dec_le left (at_least (from + suc m) ks)) [
      | yes h ↦ (from + suc m, omega arith, omega arith, (a, h))
      | no h ↦
          let t = threshold left ks from m (omega (arith, ap (λ (m : ℕ). at_least m ks) {x = suc (from + m)} {y = from + suc m} (omega arith))) b in
          (t.0, t.1, omega (arith, t.2), t.3)
    ]

sum-given : (θ spare : ℕ) (ks : List ℕ) → sum (given θ spare ks) ≡ at_least (suc θ) ks + min spare (at_least θ ks - at_least (suc θ) ks)
sum-given θ spare [] = omega arith
sum-given θ spare (k ∷ ks) =
    let ih = sum-given θ (spare_after θ spare k) ks in
    let m = antitone θ (suc θ) ks (omega arith) in
    elim (case θ spare k) [ above h p q e f ↦ omega arith | level h g p q e f ↦ omega (arith, bit-min spare) | under h p q e f ↦ omega arith ]

pub sum-extras : (left : ℕ) (ks : List ℕ) → left ≤ length ks → sum (extras left [] ks) ≡ left
sum-extras left ks h =
    let t = threshold left ks 0 (largest ks) (omega (arith, no_higher (suc (0 + largest ks)) ks (omega arith))) (omega (arith, at_zero ks)) in
    ap sum (extras-given left t.0 ks t.3) ∙ omega (arith, sum-given t.0 (left - at_least (suc t.0) ks) ks)

pub length-extras : (left : ℕ) (earlier later : List ℕ) → length (extras left earlier later) ≡ length later
length-extras left earlier [] = refl
length-extras left earlier (k ∷ later) = ap suc (length-extras left (k ∷ earlier) later)

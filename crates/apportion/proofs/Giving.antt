-- The leftover given in two passes: to the keys above the threshold, then to the earliest at it. Assumes nothing.
use mathlib.Core.Path.{◌≡◌, refl, sym, ap, ap₂, ◌∙◌}
use mathlib.Core.Bool.{Bool, true, false}
use mathlib.Core.List.{List, [], ◌∷◌}
use mathlib.Core.Logic.{inl, inr}
use Prim.Native.Nat.{ℕ, zero, suc, ◌+◌, ◌-◌, ◌≤◌, min}
use native.Mathlib.Omega.{arith}
use borrow.Author.Tests.{eq-eqb, ne_eqb}
use lib.Dec.{ltb, eqb}
use lib.ListN.{get_or}
use Rattle.apportion.specs.Shares.{bit, at_least, extras, added}
use Rattle.apportion.specs.Inner.Selection.{Cuts, one, spare_after, given, given_tie, given_ties}
use Rattle.apportion.proofs.Counting.{bit-cases, bit-min}
use Rattle.apportion.proofs.Takers.{case, above, level, under, extras-given}

-- ---- with none to spare only the keys above get one
given_above : (θ k : ℕ) (ks : List ℕ) → given θ 0 (k ∷ ks) ≡ bit (ltb θ k) ∷ given θ 0 ks
given_above θ k ks =
    elim (case θ 0 k) [
      | above h p q e f ↦ ap₂ (λ (x s : ℕ). x ∷ given θ s ks) (e ∙ sym q) f
      | level h g p q e f ↦ ap₂ (λ (x s : ℕ). x ∷ given θ s ks) (e ∙ sym q) f
      | under h p q e f ↦ ap₂ (λ (x s : ℕ). x ∷ given θ s ks) (e ∙ sym q) f
    ]

-- no item gets more than one, nor any where no key is above
pub one_each : (θ : ℕ) (xs ks : List ℕ) (j : ℕ) → get_or (added xs (given θ 0 ks)) j 0 ≤ get_or xs j 0 + min 1 (at_least (suc θ) ks)
one_each θ [] ks j = omega arith
one_each θ (x ∷ xs) [] j = omega arith
one_each θ (x ∷ xs) (k ∷ ks) zero =
    let g = ap (λ (gs : List ℕ). get_or (added (x ∷ xs) gs) 0 0) (given_above θ k ks) in
    elim (bit-cases (suc θ) k) [ inl a ↦ omega (arith, a, g) | inr a ↦ omega (arith, a, g) ]
one_each θ (x ∷ xs) (k ∷ ks) (suc j) = omega (arith, ap (λ (gs : List ℕ). get_or (added (x ∷ xs) gs) (suc j) 0) (given_above θ k ks), one_each θ xs ks j)

-- ---- ties
tie_none : (b : Bool) → given_tie b 0 ≡ 0
tie_none true = refl
tie_none false = refl

pub no_ties : (θ : ℕ) (xs ks : List ℕ) → added xs (given_ties θ 0 ks) ≡ xs
no_ties θ [] ks = refl
no_ties θ (x ∷ xs) [] = refl
no_ties θ (x ∷ xs) (k ∷ ks) =
    ap (λ (t : ℕ). (x + t) ∷ added xs (given_ties θ (0 - t) ks)) (tie_none (eqb k θ)) ∙ ap₂ (λ (y : ℕ) (ys : List ℕ). y ∷ ys) {y = x} (omega arith) (no_ties θ xs ks)

both : (θ s k : ℕ) → (bit (ltb θ k) + given_tie (eqb k θ) s ≡ one θ s k) × (s - given_tie (eqb k θ) s ≡ spare_after θ s k)
both θ s k =
    elim (case θ s k) [
      | above h p q e f ↦ omega (arith, ap (λ (b : Bool). given_tie b s) (ne_eqb k θ (λ z. omega arith)))
      | level h g p q e f ↦ omega (arith, bit-min s, ap (λ (b : Bool). given_tie b s) (eq-eqb k θ (omega arith)))
      | under h p q e f ↦ omega (arith, ap (λ (b : Bool). given_tie b s) (ne_eqb k θ (λ z. omega arith)))
    ]

above-then-ties : (θ s : ℕ) (xs ks : List ℕ) → added (added xs (given θ 0 ks)) (given_ties θ s ks) ≡ added xs (given θ s ks)
above-then-ties θ s [] ks = refl
above-then-ties θ s (x ∷ xs) [] = refl
above-then-ties θ s (x ∷ xs) (k ∷ ks) =
    let t = given_tie (eqb k θ) s in
    ap (λ (gs : List ℕ). added (added (x ∷ xs) gs) (given_ties θ s (k ∷ ks))) (given_above θ k ks)
    ∙ ap₂ (λ (y : ℕ) (ys : List ℕ). y ∷ ys) {x = x + bit (ltb θ k) + t} {y = x + one θ s k} (omega (arith, (both θ s k).0))
    (above-then-ties θ (s - t) xs ks ∙ ap (λ (r : ℕ). added xs (given θ r ks)) (both θ s k).1)

-- THE TWO PASSES GIVE WHAT IS GIVEN IN ONE
pub two_passes : (θ spare : ℕ) (ks out : List ℕ) {mid last : List ℕ} → mid ≡ added out (given θ 0 ks) → last ≡ added mid (given_ties θ spare ks) → last ≡ added out (given θ spare ks)
two_passes θ spare ks out m l = l ∙ ap (λ (xs : List ℕ). added xs (given_ties θ spare ks)) m ∙ above-then-ties θ spare out ks

-- AND THAT IS THE LEFTOVER
pub leftover_given : (left θ spare : ℕ) (ks : List ℕ) → Cuts left θ spare ks → given θ spare ks ≡ extras left [] ks
leftover_given left θ spare ks h = ap (λ (x : ℕ). given θ x ks) h.1 ∙ sym (extras-given left θ ks h.0)

-- Three columns unit by unit, and as they are written one after the other. Assumes nothing.
use mathlib.Core.Path.{◌≡◌, refl, sym, ap, ◌∙◌}
use mathlib.Core.List.{List, [], ◌∷◌, map}
use Prim.Native.Nat.{ℕ, zero, suc, ◌+◌, ◌*◌, ◌/◌, ◌%◌, ◌<◌}
use native.Mathlib.Omega.{arith}
use lib.ListN.{length, get_or, drop, get_or-map}
use lib.Seq.{ext_get_or}
use Rattle.sheet.specs.Tests.{Each}
use Rattle.sheet.specs.declared.rule_set.RuleSet.{RuleSet}
use Rattle.sheet.specs.Layout.{Sheet}
use Rattle.month.proofs.Lists.{get_d_tail}
use Rattle.settlement.specs.Inner.Numbers.{Put}
use Rattle.charges.specs.declared.amounts.Amounts.{Amounts}
use Rattle.charges.specs.Charges.{charge_weights, columns, by_unit, fixed_charges}
use Rattle.charges.specs.Inner.Columns.{column_place}

-- number i of column j
abbrev pub cell : List (List ℕ) → (i j : ℕ) → ℕ
cell cs i j = get_or (get_or cs j []) i 0

tail_cell : (cs : List (List ℕ)) (i j : ℕ) → cell (map (drop 1) cs) i j ≡ cell cs (suc i) j
tail_cell cs i j = ap (λ (c : List ℕ). get_or c i 0) (get_or-map (drop 1) cs j []) ∙ get_d_tail (get_or cs j []) i 0

pub by_unit-length : (n : ℕ) (x y z : List ℕ) → length (by_unit n (x ∷ y ∷ z ∷ [])) ≡ 3 * n
unfolding by_unit
by_unit-length zero x y z = refl
by_unit-length (suc n) x y z = omega (arith, by_unit-length n (drop 1 x) (drop 1 y) (drop 1 z))

pub by_unit-at : (n i j : ℕ) (x y z : List ℕ) → i < n → j < 3 → get_or (by_unit n (x ∷ y ∷ z ∷ [])) (3 * i + j) 0 ≡ cell (x ∷ y ∷ z ∷ []) i j
unfolding by_unit
by_unit-at zero i j x y z h l = absurd (omega arith)
by_unit-at (suc n) zero zero x y z h l = refl
by_unit-at (suc n) zero (suc zero) x y z h l = refl
by_unit-at (suc n) zero (suc (suc zero)) x y z h l = refl
by_unit-at (suc n) zero (suc (suc (suc j))) x y z h l = absurd (omega arith)
by_unit-at (suc n) (suc i) j x y z h l =
    let e : 3 * suc i + j ≡ suc (suc (suc (3 * i + j))) = omega arith in
    rw e (by_unit-at n i j (drop 1 x) (drop 1 y) (drop 1 z) (omega arith) l ∙ tail_cell (x ∷ y ∷ z ∷ []) i j)

-- a bound of every number
pub by_unit-below : (b n : ℕ) (x y z : List ℕ) → ((i : ℕ) → get_or x i 0 < b) → ((i : ℕ) → get_or y i 0 < b) → ((i : ℕ) → get_or z i 0 < b)
    → Each (λ v. v < b) (by_unit n (x ∷ y ∷ z ∷ []))
unfolding by_unit
by_unit-below b zero x y z p q r = tt
by_unit-below b (suc n) x y z p q r =
    let tail : (c : List ℕ) → ((i : ℕ) → get_or c i 0 < b) → (i : ℕ) → get_or (drop 1 c) i 0 < b = λ c h i. rw (get_d_tail c i 0) (h (suc i)) in
    (p 0, (q 0, (r 0, by_unit-below b n (drop 1 x) (drop 1 y) (drop 1 z) (tail x p) (tail y q) (tail z r))))

-- ---- written one after the other
-- by all numbers of a list
pub put_whole : (at : ℕ → ℕ) {xs ys : List ℕ} (n : ℕ) → xs ≡ ys → (before after : List ℕ) → Put at (length xs) (λ i. get_or xs i 0) before after → length xs ≡ n → Put at n (λ i. get_or ys i 0) before after
put_whole at n e before after w l = rw (← e, ← l) w

module _ (n : ℕ) (x y z before first second third : List ℕ)
    (p : Put (column_place 0) n (λ i. get_or x i 0) before first)
    (q : Put (column_place 1) n (λ i. get_or y i 0) first second)
    (r : Put (column_place 2) n (λ i. get_or z i 0) second third) where
  written_at : (i j : ℕ) → i < n → j < 3 → get_or third (3 * i + j) 0 ≡ cell (x ∷ y ∷ z ∷ []) i j
  written_at i zero h l = r.kept (3 * i + 0) (λ k m e. omega arith) ∙ q.kept (3 * i + 0) (λ k m e. omega arith) ∙ p.put i h
  written_at i (suc zero) h l = r.kept (3 * i + 1) (λ k m e. omega arith) ∙ q.put i h
  written_at i (suc (suc zero)) h l = r.put i h
  written_at i (suc (suc (suc j))) h l = absurd (omega arith)

  pub all-written : length third ≡ 3 * n → third ≡ by_unit n (x ∷ y ∷ z ∷ [])
  all-written room = ext_get_or 0 third (by_unit n (x ∷ y ∷ z ∷ [])) (room ∙ sym (by_unit-length n x y z)) (λ k h.
      let e : 3 * (k / 3) + k % 3 ≡ k = omega arith in
      let i : k / 3 < n = omega arith in
      let j : k % 3 < 3 = omega arith in
      ap (λ (m : ℕ). get_or third m 0) (sym e)
      ∙ written_at (k / 3) (k % 3) i j
      ∙ sym (by_unit-at n (k / 3) (k % 3) x y z i j)
      ∙ ap (λ (m : ℕ). get_or (by_unit n (x ∷ y ∷ z ∷ [])) m 0) e)

-- these are the charges of a sheet
pub charges-by : (rules : RuleSet) (model : ℕ) (a : Amounts) (s : Sheet) (n : ℕ) (ws : List ℕ) → n ≡ length s.units → ws ≡ charge_weights model s → by_unit n (columns rules a ws) ≡ fixed_charges rules model a s
unfolding fixed_charges
charges-by rules model a s n ws e f = rw (e, f)

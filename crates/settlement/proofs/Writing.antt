-- Lists written number by number, and the statement unit by unit. Assumes nothing.
use mathlib.Core.Path.{◌≡◌, refl, sym, ap, ◌∙◌}
use mathlib.Core.Logic.{inl, inr}
use mathlib.Core.List.{List, [], ◌∷◌}
use Prim.Native.Nat.{ℕ, zero, suc, ◌+◌, ◌*◌, ◌-◌, ◌/◌, ◌%◌, ◌≤◌, ◌<◌}
use native.Mathlib.Omega.{arith}
use native.Mathlib.Nat.{add-zero}
use borrow.Author.Tests.{ltb-true, ltb-false, eqb-true, eqb-false}
use lib.Dec.{ltb, eqb}
use lib.ListN.{length, get_or, take, drop, set, length-set, length-append, length-drop, get_or-append}
use lib.Seq.{get_or-set_same, get_or-set_other, ext_get_or, get_or-take, get_or-drop, get_or-append-add, length-take-le}
use Rattle.sheet.specs.declared.rule_set.RuleSet.{RuleSet}
use Rattle.sheet.specs.Layout.{Sheet}
use Rattle.month.specs.Steps.{whole_wh, unit_by_unit, heat, common_heat, water, common_water, energies_with}
use Rattle.month.specs.Month.{four_and_four}
use Rattle.month.proofs.Lists.{decided, get_d_tail, by_unit-length, rows-length, row-energy, row_cost}
use Rattle.settlement.specs.Inner.Numbers.{Put, energy_place, cost_place, energies_in}

-- ---- one number more
pub put-none : (at number : ℕ → ℕ) (list : List ℕ) → Put at 0 number list list
put-none at number list = record { put = λ k h. absurd (omega arith); kept = λ p no. refl }

module _ (at number : ℕ → ℕ) (apart : (k l : ℕ) → at k ≡ at l → k ≡ l) (before : List ℕ) where
  -- number m at place p
  pub put_next : (after : List ℕ) {m p q v : ℕ} → p ≡ at m → q ≡ m + 1 → p < length after → v ≡ number m → Put at m number before after → Put at q number before (set after p v)
  put_next after {m} {p} {q} {v} place next h e w = record {
    put = λ k l. elim (decided (eqb k m)) [
      | inl y ↦ let f = eqb-true k m y in rw (f, ← place) (get_or-set_same after p v 0 h ∙ e)
      | inr y ↦ let d = eqb-false k m y in get_or-set_other after p (at k) v 0 (λ z. d (apart k m (z ∙ place))) ∙ w.put k (omega arith)
    ];
    kept = λ x no. get_or-set_other after p x v 0 (λ z. no m (omega arith) (z ∙ place)) ∙ w.kept x (λ k l z. no k (omega arith) z);
  }

  -- four numbers more, at four places in a row
  pub put_four : (after : List ℕ) (i p : ℕ) {a b c d : ℕ} → ((j : ℕ) → j < 4 → p + j ≡ at (4 * i + j)) → p + 4 ≤ length after
      → a ≡ number (4 * i) → b ≡ number (4 * i + 1) → c ≡ number (4 * i + 2) → d ≡ number (4 * i + 3)
      → Put at (4 * i) number before after → Put at (4 * (i + 1)) number before (set (set (set (set after p a) (p + 1) b) (p + 2) c) (p + 3) d)
  put_four after i p {a} {b} {c} {d} places room ea eb ec ed w =
      let first : p ≡ at (4 * i) = sym (add-zero p) ∙ places 0 (omega arith) ∙ ap at (add-zero (4 * i)) in
      let l1 = length-set after p a in
      let l2 = length-set (set after p a) (p + 1) b in
      let l3 = length-set (set (set after p a) (p + 1) b) (p + 2) c in
      put_next _ (places 3 (omega arith)) (omega arith) (omega (arith, l1, l2, l3)) ed
      (put_next _ (places 2 (omega arith)) (omega arith) (omega (arith, l1, l2)) ec
      (put_next _ (places 1 (omega arith)) (omega arith) (omega (arith, l1)) eb
      (put_next after first refl (omega arith) ea w)))

-- ---- four lists unit by unit
-- unit i's four
pub by_unit-at : (n i j : ℕ) (a b c d : List ℕ) → i < n → j < 4 → get_or (unit_by_unit whole_wh n a b c d) (4 * i + j) 0 ≡ get_or (get_or a i 0 ∷ get_or b i 0 ∷ get_or c i 0 ∷ get_or d i 0 ∷ []) j 0
unfolding unit_by_unit
by_unit-at zero i j a b c d h l = absurd (omega arith)
by_unit-at (suc n) zero zero a b c d h l = refl
by_unit-at (suc n) zero (suc zero) a b c d h l = refl
by_unit-at (suc n) zero (suc (suc zero)) a b c d h l = refl
by_unit-at (suc n) zero (suc (suc (suc zero))) a b c d h l = refl
by_unit-at (suc n) zero (suc (suc (suc (suc j)))) a b c d h l = absurd (omega arith)
by_unit-at (suc n) (suc i) j a b c d h l =
    let e : 4 * suc i + j ≡ suc (suc (suc (suc (4 * i + j)))) = omega arith in
    rw (e, ← get_d_tail a i 0, ← get_d_tail b i 0, ← get_d_tail c i 0, ← get_d_tail d i 0) (by_unit-at n i j (drop 1 a) (drop 1 b) (drop 1 c) (drop 1 d) (omega arith) l)

tail_take : (n : ℕ) (xs : List ℕ) → drop 1 (take (suc n) xs) ≡ take n (drop 1 xs)
tail_take zero [] = refl
tail_take (suc n) [] = refl
tail_take n (x ∷ xs) = refl

-- only the first n of each count
by_unit-take : (n : ℕ) (a b c d : List ℕ) → unit_by_unit whole_wh n a b c d ≡ unit_by_unit whole_wh n (take n a) (take n b) (take n c) (take n d)
unfolding unit_by_unit
by_unit-take zero a b c d = refl
by_unit-take (suc n) a b c d =
    let first : (xs : List ℕ) → get_or (take (suc n) xs) 0 0 ≡ get_or xs 0 0 = λ xs. get_or-take (suc n) xs 0 0 (omega arith) in
    rw (first a, first b, first c, first d, tail_take n a, tail_take n b, tail_take n c, tail_take n d)
    (ap (λ (r : List ℕ). get_or a 0 0 ∷ get_or b 0 0 ∷ get_or c 0 0 ∷ get_or d 0 0 ∷ r) (by_unit-take n (drop 1 a) (drop 1 b) (drop 1 c) (drop 1 d)))

pub energies-by_unit : (rules : RuleSet) (s : Sheet) (common : ℕ) {n : ℕ} (a b c d : List ℕ) → n ≡ length s.units
    → take n a ≡ heat whole_wh rules s → take n b ≡ common_heat whole_wh rules s common → take n c ≡ water whole_wh rules s → take n d ≡ common_water whole_wh rules s
    → unit_by_unit whole_wh n a b c d ≡ energies_with whole_wh rules s common
energies-by_unit rules s common {n} a b c d count ea eb ec ed = by_unit-take n a b c d ∙ rw (ea, eb, ec, ed, count)

-- ---- the energies in a statement
pub energies_in-length : (n : ℕ) (out : List ℕ) → length out ≡ 8 * n → length (energies_in n out) ≡ 4 * n
unfolding energies_in
energies_in-length zero out h = refl
energies_in-length (suc n) out h = omega (
  arith,
  length-append (take 4 out) (energies_in n (drop 8 out)),
  length-take-le 4 out (omega arith),
  energies_in-length n (drop 8 out) (omega (arith, length-drop 8 out)),
)

-- energy j of unit i
energy_in : (n i j : ℕ) (out : List ℕ) → length out ≡ 8 * n → i < n → j < 4 → get_or (energies_in n out) (4 * i + j) 0 ≡ get_or out (8 * i + j) 0
unfolding energies_in
energy_in zero i j out h l few = absurd (omega arith)
energy_in (suc n) zero j out h l few =
    let e : 4 * 0 + j ≡ j = omega arith in
    rw e (get_or-append (take 4 out) (energies_in n (drop 8 out)) 0 j (omega (arith, length-take-le 4 out (omega arith))) ∙ get_or-take 4 out j 0 few)
energy_in (suc n) (suc i) j out h l few =
    let e : 4 * suc i + j ≡ length (take 4 out) + (4 * i + j) = omega (arith, length-take-le 4 out (omega arith)) in
    let f : 8 * suc i + j ≡ 8 + (8 * i + j) = omega arith in
    rw (e, f) (
    get_or-append-add (take 4 out) (energies_in n (drop 8 out)) (4 * i + j) 0
    ∙ energy_in n i j (drop 8 out) (omega (arith, length-drop 8 out)) (omega arith) few
    ∙ get_or-drop 8 out (8 * i + j) 0
    )

module _ (n : ℕ) (out : List ℕ) (room : length out ≡ 8 * n) where
  energy_at_lem : (k : ℕ) → k < 4 * n → get_or (energies_in n out) k 0 ≡ get_or out (energy_place k) 0
  energy_at_lem k h =
      let e : 4 * (k / 4) + k % 4 ≡ k = omega arith in
      ap (λ (x : ℕ). get_or (energies_in n out) x 0) (sym e) ∙ energy_in n (k / 4) (k % 4) out room (omega arith) (omega arith)

  -- written, number by number
  energies_are : (es : List ℕ) → length es ≡ 4 * n → ((k : ℕ) → k < 4 * n → get_or out (energy_place k) 0 ≡ get_or es k 0) → energies_in n out ≡ es
  energies_are es l at = ext_get_or 0 (energies_in n out) es (energies_in-length n out room ∙ sym l) (λ k h.
      let less : k < 4 * n = omega (arith, energies_in-length n out room) in energy_at_lem k less ∙ at k less)

  pub energies-put : (before a b c d : List ℕ) → Put energy_place (4 * n) (λ k. get_or (unit_by_unit whole_wh n a b c d) k 0) before out → energies_in n out ≡ unit_by_unit whole_wh n a b c d
  energies-put before a b c d p = energies_are (unit_by_unit whole_wh n a b c d) (by_unit-length whole_wh n a b c d) p.put

  -- read into a list of 4n numbers
  pub energies-read : (before ws : List ℕ) → length ws ≡ 4 * n → Put (λ k. k) (4 * n) (λ k. get_or out (energy_place k) 0) before ws → ws ≡ energies_in n out
  energies-read before ws l p = sym (energies_are ws l (λ k h. sym (p.put k h)))

  -- and the cents beside them: place p holds number p % 8 of unit p / 8
  module _ (cents after : List ℕ) (many : length cents ≡ 4 * n) (l : length after ≡ 8 * n) (put : Put cost_place (4 * n) (λ k. get_or cents k 0) out after) where
    pub statement-is : after ≡ four_and_four n (energies_in n out) cents
    statement-is = ext_get_or 0 after (four_and_four n (energies_in n out) cents) (omega (arith, rows-length n (energies_in n out) cents count many)) (λ p h.
        let i = p / 8 in
        let j = p % 8 in
        let inside : i < n = omega arith in
        elim (decided (ltb j 4)) [
          | inl y ↦
              let few = ltb-true j 4 y in
              let row : 8 * i + j ≡ p = omega arith in
              put.kept p (λ x less z. omega arith)
              ∙ ap (λ (x : ℕ). get_or out x 0) (sym row)
              ∙ sym (energy_in n i j out room inside few)
              ∙ sym (row-energy n (energies_in n out) cents i j count many inside few)
              ∙ ap (λ (x : ℕ). get_or (four_and_four n (energies_in n out) cents) x 0) row
          | inr y ↦
              let many_more = ltb-false j 4 y in
              let k = 4 * i + (j - 4) in
              let at : cost_place k ≡ p = omega arith in
              let row : 8 * i + (4 + (j - 4)) ≡ p = omega arith in
              ap (λ (x : ℕ). get_or after x 0) (sym at)
              ∙ put.put k (omega arith)
              ∙ sym (row_cost n (energies_in n out) cents i (j - 4) count many inside (omega arith))
              ∙ ap (λ (x : ℕ). get_or (four_and_four n (energies_in n out) cents) x 0) row
        ])
      where
        count : length (energies_in n out) ≡ 4 * n
        count = energies_in-length n out room

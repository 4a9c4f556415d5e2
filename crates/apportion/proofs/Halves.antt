-- A division by (100 − percent, percent): the first part is T × (100 − percent) / 100, half up.
use mathlib.Core.Path.{◌≡◌, refl, ap, sym, ◌∙◌}
use mathlib.Core.List.{List, [], ◌∷◌}
use mathlib.Core.Logic.{inl, inr}
use Prim.Native.Nat.{ℕ, suc, ◌+◌, ◌*◌, ◌-◌, ◌/◌, ◌%◌, ◌≤◌}
use native.Mathlib.Nat.{mul-add}
use native.Mathlib.Omega.{arith}
use lib.Dec.{leb, ltb}
use lib.ListN.{get_or}
use Rattle.apportion.specs.declared.tie_rule.TieRule.{TieRule}
use Rattle.apportion.specs.declared.tie_rule.TieRule.TheVariants.{EarlierFirst, LargerFirst}
use Rattle.apportion.specs.Shares.{bit, shares_by, shares}
use Rattle.apportion.proofs.Counting.{bit-yes, bit_no, bit-cases}
use Rattle.apportion.proofs.Laws.{shares-fair}

-- The parts of two items, from their remainders r and s: left over is 1 where r + s is 100. Their keys k and l lie as the remainders do.
first : (r s left k l : ℕ) → r + s ≡ 100 * left → left ≤ 1 → bit (leb (suc k) l) ≡ bit (leb (suc r) s) → bit (ltb (0 + (bit (leb (suc k) l) + 0)) left) ≡ (r + 50) / 100
first r s left k l e h keys =
    elim (bit-cases (suc r) s) [
      | inl a ↦ elim (bit-cases (suc (0 + (bit (leb (suc k) l) + 0))) left) [ inl b ↦ omega (arith, a, b) | inr b ↦ omega (arith, a, b) ]
      | inr a ↦ elim (bit-cases (suc (0 + (bit (leb (suc k) l) + 0))) left) [ inl b ↦ omega (arith, a, b) | inr b ↦ omega (arith, a, b) ]
    ]

module _ (total percent : ℕ) (h : percent ≤ 50) where
  -- the first part, T × (100 − percent) / 100, half up
  abbrev half_up : ℕ
  half_up = (total * (100 - percent) + 50) / 100

  pub both : total * (100 - percent) + total * percent ≡ total * 100
  both = let e : 100 - percent + percent ≡ 100 = omega arith in sym (mul-add total (100 - percent) percent) ∙ ap (λ (x : ℕ). total * x) e

  pub half_up_le : half_up ≤ total
  half_up_le = omega (arith, both)

  abbrev pair : List ℕ
  pair = (100 - percent) ∷ percent ∷ []

  -- the remainders, and what the quotas leave
  abbrev r : ℕ
  r = total * (100 - percent) % 100

  abbrev s : ℕ
  s = total * percent % 100

  abbrev left : ℕ
  left = total - (total * (100 - percent) / 100 + (total * percent / 100 + 0))

  whole : 100 - percent + (percent + 0) ≡ 100
  whole = omega arith

  -- the first part's key and the second's
  abbrev keys : TieRule → ℕ × ℕ
  keys EarlierFirst = (r, s)
  keys LargerFirst = (r * 101 + (100 - percent), s * 101 + percent)

  -- the second weight isn't the larger one, so by both rules the first comes first where the remainders are equal
  in_order : (ties : TieRule) → let k = keys ties in bit (leb (suc k.0) k.1) ≡ bit (leb (suc r) s)
  in_order EarlierFirst = refl
  in_order LargerFirst =
      let k = keys LargerFirst in
      elim (bit-cases (suc r) s) [ inl a ↦ bit-yes (suc k.0) k.1 (omega arith) ∙ sym a.1 | inr a ↦ bit_no (suc k.0) k.1 (omega arith) ∙ sym a.1 ]

  first_is : (ties : TieRule) → let k = keys ties in bit (ltb (0 + (bit (leb (suc k.0) k.1) + 0)) left) ≡ (r + 50) / 100
  first_is ties = let k = keys ties in first r s left k.0 k.1 (omega (arith, both)) (omega (arith, both)) (in_order ties)

  pub first_part : (ties : TieRule) → get_or (shares ties total pair) 0 0 ≡ half_up
  unfolding shares_by
  first_part EarlierFirst = rw whole (omega (arith, both, first_is EarlierFirst))
  first_part LargerFirst = rw whole (omega (arith, both, first_is LargerFirst))

  pub second-part : (ties : TieRule) → get_or (shares ties total pair) 1 0 ≡ total - half_up
  unfolding shares_by
  second-part ties = omega (arith, first_part ties, half_up_le, (shares-fair ties total pair (λ z. absurd (omega arith))).adds_up)

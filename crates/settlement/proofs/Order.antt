-- The shares of the units not read and of the read ones, back in the order of the units. Assumes nothing.
use Rattle.std.specs.Prelude.{if◌then◌else◌}
use mathlib.Core.Path.{◌≡◌, refl, sym, ◌∙◌}
use mathlib.Core.Logic.{inl, inr}
use mathlib.Core.Bool.{not}
use mathlib.Core.List.{List, [], ◌∷◌, ◌++◌, append-nil}
use Prim.Native.Nat.{ℕ, suc, ◌+◌, ◌<◌, ◌≤◌}
use native.Mathlib.Omega.{arith}
use native.Mathlib.Numerals.{add-one}
use native.Mathlib.Nat.{add-zero}
use lib.ListN.{length, get_or, take, drop, set, drop_of_length-le}
use lib.Seq.{take-suc-set, append_snoc, drop-drop, get_or-drop}
use Rattle.apportion.specs.Shares.{bit}
use Rattle.sheet.specs.Layout.{UnitRow}
use Rattle.month.specs.Weights.{those, is_read}
use Rattle.month.specs.Steps.{whole_wh, in_unit_order}
use Rattle.month.proofs.Lists.{decided}

abbrev pub order : List UnitRow → List ℕ → List ℕ → List ℕ
order us a b = in_unit_order whole_wh us a b

-- the first unit takes the next share of its kind
next : (u : UnitRow) (us : List UnitRow) (a b : List ℕ) (q r : ℕ)
    → order (u ∷ us) (drop q a) (drop r b)
    ≡ (if is_read u then get_or b r 0 else get_or a q 0) ∷ order us (drop (q + bit (not (is_read u))) a) (drop (r + bit (is_read u)) b)
unfolding in_unit_order
next u us a b q r = elim (decided (is_read u)) [
  | inl e ↦ simp (e, get_or-drop, drop-drop, add-zero)
  | inr e ↦ simp (e, get_or-drop, drop-drop, add-zero)
]

-- a loop's turn
pub turn-order : (us : List UnitRow) (u : UnitRow) (a b out : List ℕ) (i q r : ℕ) {goal : List ℕ} {v x y : ℕ} → drop i us ≡ u ∷ drop (i + 1) us → i < length out
    → v ≡ (if is_read u then get_or b r 0 else get_or a q 0) → x ≡ bit (not (is_read u)) → y ≡ bit (is_read u)
    → take i out ++ order (drop i us) (drop q a) (drop r b) ≡ goal → take (i + 1) (set out i v) ++ order (drop (i + 1) us) (drop (q + x) a) (drop (r + y) b) ≡ goal
turn-order us u a b out i q r {v = v} e h f fx fy p =
    let e' = rw add-one at e in
    rw (add-one, take-suc-set out i v h, append_snoc, f, fx, fy, ← next u (drop (suc i) us) a b q r, ← e') p

pub order-end : (us : List UnitRow) (a b out : List ℕ) (i : ℕ) {goal : List ℕ} → length us ≤ i → take i out ++ order (drop i us) a b ≡ goal → take i out ≡ goal
unfolding in_unit_order
order-end us a b out i h p = sym (append-nil (take i out)) ∙ (rw (drop_of_length-le us h) at p)

-- only as many shares count as there are units of each kind
pub order_same : (us : List UnitRow) (a b c d : List ℕ)
    → ((i : ℕ) → i < length (those (λ u. not (is_read u)) us) → get_or a i 0 ≡ get_or c i 0)
    → ((i : ℕ) → i < length (those is_read us) → get_or b i 0 ≡ get_or d i 0)
    → order us a b ≡ order us c d
unfolding in_unit_order
order_same [] a b c d h k = refl
order_same (u ∷ us) a b c d h k = elim (decided (is_read u)) [
  | inl e ↦
      let h' = rw e at h in
      let k' = rw e at k in
      rw (e, k' 0 (omega arith), order_same us a (drop 1 b) c (drop 1 d) h' (λ i l. simp get_or-drop (k' (1 + i) (omega arith))))
  | inr e ↦
      let h' = rw e at h in
      let k' = rw e at k in
      rw (e, h' 0 (omega arith), order_same us (drop 1 a) b (drop 1 c) d (λ i l. simp get_or-drop (h' (1 + i) (omega arith))) k')
]

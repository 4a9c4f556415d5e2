-- Any of a list of tests, by place; zeros. Assumes nothing.
use mathlib.Core.Path.{◌≡◌, refl}
use mathlib.Core.Bool.{Bool, true, false, ◌||◌}
use mathlib.Core.List.{List, [], ◌∷◌}
use Prim.Native.Nat.{ℕ, zero, suc, ◌<◌}
use native.Mathlib.Omega.{arith}
use native.Mathlib.Decide.{dec_lt}
use lib.ListN.{length, get_or, replicate, length-replicate, get_or-replicate, get_or-eq_default}
use Rattle.sheet.specs.Tests.{any}

pub neither : (s t : Bool) → (s || t) ≡ false → (s ≡ false) × (t ≡ false)
neither false t e = (refl, e)
neither true t e = absurd (let z : ◌≡◌ {A = ℕ} 0 1 = cc in omega arith)

pub none_of_two : {s t : Bool} → s ≡ false → t ≡ false → (s || t) ≡ false
none_of_two e f = rw (e, f)

pub second_of_two : (s : Bool) {t : Bool} → t ≡ true → (s || t) ≡ true
second_of_two true e = refl
second_of_two false e = e

-- ---- any
pub some-test : (ts : List Bool) (i : ℕ) → get_or ts i false ≡ true → any ts ≡ true
unfolding any
some-test [] i h = h
some-test (t ∷ ts) zero h = rw h
some-test (t ∷ ts) (suc i) h = second_of_two t (some-test ts i h)

pub no_test : (ts : List Bool) → ((i : ℕ) → i < length ts → get_or ts i false ≡ false) → any ts ≡ false
unfolding any
no_test [] h = refl
no_test (t ∷ ts) h = none_of_two (h 0 (omega arith)) (no_test ts (λ i l. h (suc i) (omega arith)))

pub not-any : (ts : List Bool) → any ts ≡ false → (i : ℕ) → get_or ts i false ≡ false
unfolding any
not-any [] e i = refl
not-any (t ∷ ts) e zero = (neither t (any ts) e).0
not-any (t ∷ ts) e (suc i) = not-any ts (neither t (any ts) e).1 i

-- ---- zeros
pub zero-at : (n x : ℕ) → get_or (replicate {A = ℕ} n 0) x 0 ≡ 0
zero-at n x = elim (dec_lt x n) [
  | yes h ↦ get_or-replicate n x 0 0 h
  | no h ↦ get_or-eq_default (replicate n 0) 0 (rw length-replicate (omega arith))
]

-- What an accepted check says, as plain facts. Assumes nothing.
use lib.Pointwise.{pointwise}
use mathlib.Core.Path.{◌≡◌, refl, ap}
use mathlib.Core.Bool.{Bool, true, false, not, ◌&&◌}
use mathlib.Core.List.{List, [], ◌∷◌, ◌++◌}
use Prim.Native.Nat.{ℕ}
use native.Mathlib.Omega.{arith}
use lib.Dec.{leb, eqb}
use borrow.Author.Tests.{leb-true, le-leb, not-false}
use Rattle.sheet.specs.declared.ranges.Range.{Range}
use Rattle.std.specs.Prelude.{Ok}
use Rattle.sheet.specs.Tests.{any}
use Rattle.sheet.specs.Refusals.{Rule, ◌⇒◌, first_refusal}
use Rattle.sheet.specs.Check.{passes, ◌within◌, same_list}
use Rattle.sheet.specs.Inner.Fits.{InRange}

-- ---- no rule's condition holds
abbrev pub NoneHolds : List Rule → Type 0
NoneHolds [] = Unit {0}
NoneHolds ((c ⇒ r) ∷ rules) = (c ≡ false) × NoneHolds rules

pub none-holds : (rules : List Rule) → first_refusal rules ≡ Ok tt → NoneHolds rules
unfolding first_refusal
none-holds [] e = tt
none-holds ((true ⇒ r) ∷ rules) e = absurd (let z : ◌≡◌ {A = ℕ} 0 1 = cc in omega arith)
none-holds ((false ⇒ r) ∷ rules) e = (refl, none-holds rules e)

pub holds-none : (rules : List Rule) → NoneHolds rules → first_refusal rules ≡ Ok tt
unfolding first_refusal
holds-none [] h = refl
holds-none ((c ⇒ r) ∷ rules) h = rw h.0 (holds-none rules h.1)

pub both-none : (xs ys : List Rule) → NoneHolds xs → NoneHolds ys → NoneHolds (xs ++ ys)
both-none [] ys h k = k
both-none ((c ⇒ r) ∷ xs) ys h k = (h.0, both-none xs ys h.1 k)

pub none_of-both : (xs ys : List Rule) → NoneHolds (xs ++ ys) → NoneHolds xs × NoneHolds ys
none_of-both [] ys h = (tt, h)
none_of-both ((c ⇒ r) ∷ xs) ys h = let p = none_of-both xs ys h.1 in ((h.0, p.0), p.1)

-- ---- tests
pub and_true : (a b : Bool) → (a && b) ≡ true → (a ≡ true) × (b ≡ true)
and_true true b e = (refl, e)
and_true false b e = absurd (let z : ◌≡◌ {A = ℕ} 0 1 = cc in omega arith)

abbrev pub AllFalse : List Bool → Type 0
AllFalse [] = Unit {0}
AllFalse (t ∷ ts) = (t ≡ false) × AllFalse ts

pub none_of : (ts : List Bool) → any ts ≡ false → AllFalse ts
unfolding any
none_of [] e = tt
none_of (false ∷ ts) e = (refl, none_of ts e)
none_of (true ∷ ts) e = absurd (let z : ◌≡◌ {A = ℕ} 0 1 = cc in omega arith)

-- ---- a number and a range
module _ (x : ℕ) (r : Range) where
  pub in_range : passes (x within r) ≡ true → InRange x r
  in_range e = let h = and_true (leb r.low x) _ e in (leb-true r.low x h.0, leb-true x r.high h.1)

  pub not-outside : not (passes (x within r)) ≡ false → InRange x r
  not-outside e = in_range (not-false _ e)

  pub of_range : InRange x r → passes (x within r) ≡ true
  of_range h = rw (le-leb r.low x h.0, le-leb x r.high h.1)

-- ---- slices compared, as code does
pub same_pointwise : (xs ys : List ℕ) → pointwise eqb xs ys ≡ same_list xs ys
same_pointwise [] [] = refl
same_pointwise [] (y ∷ ys) = refl
same_pointwise (x ∷ xs) [] = refl
same_pointwise (x ∷ xs) (y ∷ ys) = ap (λ (t : Bool). eqb x y && t) (same_pointwise xs ys)

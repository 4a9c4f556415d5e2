-- Fractions (document 01, end of "Steps of a month"): a pair of whole numbers, the lower above 0, the upper perhaps negative.
use Rattle.std.specs.Prelude.{List, [], ◌∷◌, map, ℕ, ◌*◌, ◌≤◌, ◌<◌, eqb, ℤ, pos, ◌+ℤ◌, ◌-ℤ◌, ◌*ℤ◌, nat_abs, if◌then◌else◌}
use Rattle.apportion.specs.Shares.{sum}

pub record Fraction : Type 0 where
  pub upper : ℤ
  pub lower : ℕ

infix 80 ◌over◌
abbrev pub ◌over◌ : ℕ → ℕ → Fraction
a over b = record { upper = pos a; lower = b }

-- Fractions are added and taken from each other over a common lower number.
infixl 65 ◌+ᶠ◌ ◌-ᶠ◌
unfoldable pub ◌+ᶠ◌ : Fraction → Fraction → Fraction
f +ᶠ g = record { upper = f.upper *ℤ pos g.lower +ℤ g.upper *ℤ pos f.lower; lower = f.lower * g.lower }

unfoldable pub ◌-ᶠ◌ : Fraction → Fraction → Fraction
f -ᶠ g = record { upper = f.upper *ℤ pos g.lower -ℤ g.upper *ℤ pos f.lower; lower = f.lower * g.lower }

unfoldable pub sumᶠ : List Fraction → Fraction
sumᶠ [] = 0 over 1
sumᶠ (f ∷ fs) = f +ᶠ sumᶠ fs

-- T × w / W, or 0 when W = 0
unfoldable pub portion : Fraction → ℕ → ℕ → Fraction
portion t whole w = if eqb whole 0 then 0 over 1 else record { upper = t.upper *ℤ pos w; lower = t.lower * whole }

-- T divided by weights, unrounded
unfoldable pub portions : Fraction → List ℕ → List Fraction
portions t ws = map (portion t (sum ws)) ws

-- The whole number x is at most k away from f: |x × lower − upper| ≤ k × lower.
pub record Near (x : ℕ) (f : Fraction) (k : ℕ) : Type 0 where
  pub above0 : 0 < f.lower
  pub within : nat_abs (pos (x * f.lower) -ℤ f.upper) ≤ k * f.lower

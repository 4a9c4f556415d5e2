-- H rounded up: near the exact H, and the same refusals. Assumes nothing.
use Rattle.std.specs.Prelude.{if◌then◌else◌}
use mathlib.Core.Path.{◌≡◌, refl, sym, ◌∙◌}
use mathlib.Core.Bool.{Bool, true, false}
use mathlib.Core.Logic.{inl, inr}
use Prim.Native.Nat.{ℕ, ◌+◌, ◌*◌, ◌-◌, ◌/◌, ◌≤◌, ◌<◌}
use native.Mathlib.Omega.{arith}
use native.Mathlib.Nat.{mul-le-mul_right}
use native.Mathlib.Decide.{dec_lt}
use borrow.Author.Tests.{lt-ltb, le-ltb}
use lib.Dec.{ltb, eqb}
use lib.IntN.{ℤ, pos, negsuc, ◌-ℤ◌, ◌*ℤ◌}
use Rattle.apportion.specs.Shares.{sum}
use Rattle.sheet.specs.Layout.{Sheet, water_reading}
use Rattle.month.specs.Fraction.{Fraction, Near, ◌over◌, ◌-ᶠ◌}
use Rattle.month.specs.Weights.{metered_sum}
use Rattle.month.specs.Steps.{whole_wh, unrounded, hot_water, space_heat}
use Rattle.month.specs.Month.{hot_water_wh, space_heat_wh}
use Rattle.month.specs.Laws.{is_positive, is_below, is_above, RoundingLaws}
use Rattle.month.proofs.Nearness.{up, one-part, parts_less, RoundedUp, rounded, up-whole, up-quotient, near_up}

water-up : (s : Sheet) → RoundedUp (hot_water whole_wh s) (hot_water unrounded s)
unfolding hot_water
water-up s = go (eqb s.water_source 0) (eqb s.water_source 1) (eqb s.water_source 2)
  where
    go : (p q r : Bool) → RoundedUp
        (if p then 0 else if q then water_reading s 0 else if r then ((100 + s.loss_factor) * 54 * water_reading s 0 + (100 - 1)) / 100 else (115 * sum s.water_readings + (600 - 1)) / 600)
        (if p then 0 over 1 else if q then water_reading s 0 over 1 else if r then ((100 + s.loss_factor) * 54 * water_reading s 0) over 100 else (115 * sum s.water_readings) over 600)
    go true q r = up-whole 0
    go false true r = up-whole (water_reading s 0)
    go false false true = up-quotient ((100 + s.loss_factor) * 54 * water_reading s 0) 100 (omega arith)
    go false false false = up-quotient (115 * sum s.water_readings) 600 (omega arith)

pub near_water : (s : Sheet) → Near (hot_water whole_wh s) (hot_water unrounded s) 1
near_water s = near_up (water-up s)

-- ---- tests
positive-up : (z : ℤ) → is_positive z ≡ ltb 0 (up z)
positive-up (pos n) = refl
positive-up (negsuc n) = refl

same_test : (a b : ℕ) (z : ℤ) → (a < b → 0 < up z) → (0 < up z → a < b) → ltb a b ≡ is_positive z
same_test a b z h k = elim (dec_lt a b) [
  | yes l ↦ lt-ltb a b l ∙ sym (positive-up z ∙ lt-ltb 0 (up z) (h l))
  | no l ↦ le-ltb a b (omega arith) ∙ sym (positive-up z ∙ le-ltb 0 (up z) (elim (dec_lt 0 (up z)) [ yes g ↦ absurd (l (k g)) | no g ↦ omega arith ]))
]

below : {x : ℕ} {f : Fraction} → RoundedUp x f → (m : ℕ) → ltb m x ≡ is_below m f
below (rounded x a b h p q) m =
    let z = pos a -ℤ pos (m * b) in
    let d = parts_less (pos a) (pos (m * b)) in
    let one = one-part z in
    same_test m x z
    (λ l. omega (arith, mul-le-mul_right b l))
    (λ l. elim (dec_lt m x) [ yes g ↦ g | no g ↦ elim one [ inl e ↦ absurd (omega arith) | inr e ↦ let g' : x ≤ m = omega arith in absurd (omega (arith, mul-le-mul_right b g')) ] ])

above : {x : ℕ} {f : Fraction} → RoundedUp x f → (m c : ℕ) → x ≤ m → ltb (m - x) c ≡ is_above c ((m over 1) -ᶠ f)
unfolding ◌-ᶠ◌
above (rounded x a b h p q) m c le =
    let w = pos m *ℤ pos b -ℤ pos a *ℤ pos 1 in
    let z = pos (c * (1 * b)) -ℤ w in
    let d = parts_less (pos (m * b)) (pos (a * 1)) in
    let d' = parts_less (pos (c * (1 * b))) w in
    same_test (m - x) c z
    (λ l. let g : m < c + x = omega arith in omega (arith, mul-le-mul_right b g))
    (λ l. elim (dec_lt m (c + x)) [
      | yes g ↦ omega arith
      | no g ↦ let g' : c + x ≤ m = omega arith in elim (one-part z) [ inl e ↦ absurd (omega arith) | inr e ↦ absurd (omega (arith, mul-le-mul_right b g')) ]
    ])

pub same-refusals : RoundingLaws
unfolding hot_water_wh space_heat_wh space_heat
same-refusals s = record {
  water = below (water-up s) s.shared_meter;
  divisor = below (water-up s) 0;
  meters = above (water-up s) s.shared_meter (metered_sum s);
}

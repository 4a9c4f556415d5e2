-- What holds of each of a month's refusals holds of the first. 8 to 12 have place 0, so the place of every refusal of a month is below 160. Assumes nothing.
use mathlib.Core.List.{List}
use mathlib.Core.Logic.{inl}
use Prim.Native.Nat.{ℕ, ◌<◌}
use native.Mathlib.Omega.{arith}
use Rattle.sheet.specs.declared.refusal.Refusal.{Refusal}
use Rattle.sheet.specs.Refusals.{first_refusal, place_of}
use Rattle.sheet.specs.Inner.Places.{IfRefused, PlaceBelow, UpTo}
use Rattle.sheet.specs.Layout.{Sheet, sheet_of}
use Rattle.sheet.specs.Check.{sheet_rules}
use Rattle.sheet.proofs.Places.{each_first, both-place, sheet-place}
use Rattle.month.specs.Month.{month_rules, settle_rules}

-- 8 to 12
pub month-first : (P : Refusal → Type 0) → ((r : Refusal) → UpTo 12 r → place_of r < 160 → P r) → (s : Sheet) → IfRefused P (first_refusal (month_rules s))
unfolding month_rules
month-first P own s =
    each_first P (month_rules s) (
      own _ (inl (omega arith)) (omega arith),
      (
        own _ (inl (omega arith)) (omega arith),
        (
          own _ (inl (omega arith)) (omega arith),
          (
            own _ (inl (omega arith)) (omega arith),
            (own _ (inl (omega arith)) (omega arith), tt),
          ),
        ),
      ),
    )

pub month-place : (s : Sheet) → PlaceBelow 160 (first_refusal (month_rules s))
month-place = month-first (λ r. place_of r < 160) (λ r n p. p)

-- 1 to 12 with 20
pub settle-place : (bytes : List ℕ) → PlaceBelow 160 (first_refusal (settle_rules bytes))
unfolding settle_rules
settle-place bytes = both-place 160 (sheet_rules 32 bytes) (month_rules (sheet_of bytes)) (sheet-place 32 bytes) (month-place (sheet_of bytes))

-- What holds of a sheet, as its view keeps it, and of a row's view. Assumes nothing.
use mathlib.Core.Path.{◌≡◌, refl}
use mathlib.Core.List.{List}
use Prim.Native.Nat.{ℕ, ◌≤◌, ◌<◌}
use native.Mathlib.Omega.{arith}
use lib.ListN.{length}
use Rattle.std.specs.Prelude.{Result, Ok, Err, IsOk, MatchResult}
use Rattle.sheet.specs.Refusals.{Outcome}
use Rattle.sheet.specs.Layout.{sheet_of}
use Rattle.sheet.specs.Check.{checked}
use Rattle.sheet.specs.Inner.Fields.{unit_of}
use Rattle.sheet.specs.Inner.Fits.{Fits, UnitFits}
use Rattle.sheet.proofs.Fits.{fits, each_at}

-- a code that stands for a kind
pub known : {A E : Type 0} (P : A → Type 0) (Q : E → Type 0) (r : Result A E) → MatchResult r P Q → ((e : E) → Q e → ⊥) → IsOk r
known P Q (Ok x) h none = refl
known P Q (Err e) h none = absurd (none e h)

pub accepted : (o : Outcome) → IsOk o → o ≡ Ok tt
accepted (Ok u) h = refl
accepted (Err r) h = absurd (let z : ◌≡◌ {A = ℕ} 0 1 = cc in omega arith)

module _ (bytes : List ℕ) where
  pub passed_fits : IsOk (checked 32 bytes) → Fits 32 bytes
  passed_fits passed = fits 32 bytes (accepted _ passed)

  module _ (f : Fits 32 bytes) where
    pub has_header : 48 ≤ length bytes
    has_header = omega (arith, f.byte_count)

    pub unit_fits : (i : ℕ) → i < (sheet_of bytes).unit_count → UnitFits (sheet_of bytes) (unit_of (sheet_of bytes) i)
    unit_fits i h = each_at (UnitFits (sheet_of bytes)) (sheet_of bytes).units i _ f.units (omega (arith, f.units_length))

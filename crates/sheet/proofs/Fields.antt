-- Where the fields of a row stand. Assumes nothing.
use mathlib.Core.Path.{◌≡◌, sym, ap, ◌∙◌}
use mathlib.Core.List.{List}
use Prim.Native.Nat.{ℕ, ◌+◌, ◌<◌}
use native.Mathlib.Omega.{arith}
use lib.ListN.{take, drop}
use lib.Seq.{get_or-take, get_or-drop}
use Rattle.sheet.specs.Layout.{byte, le16, le32}

-- ---- a row's fields, of the 32 bytes from `at` on
module _ (bytes : List ℕ) (at : ℕ) where
  abbrev row : List ℕ
  row = take 32 (drop at bytes)

  byte_cut : (m k : ℕ) → m ≡ at + k → k < 32 → byte bytes m ≡ byte row k
  byte_cut m k e h = ap (byte bytes) e ∙ sym (get_or-take 32 (drop at bytes) k 0 h ∙ get_or-drop at bytes k 0)

  pub le16_cut : (m k : ℕ) → m ≡ at + k → k + 1 < 32 → le16 bytes m ≡ le16 row k
  le16_cut m k e h = omega (arith, byte_cut m k e (omega arith), byte_cut (m + 1) (k + 1) (omega arith) h)

  pub le32_cut : (m k : ℕ) → m ≡ at + k → k + 3 < 32 → le32 bytes m ≡ le32 row k
  le32_cut m k e h = omega (arith, le16_cut m k e (omega arith), byte_cut (m + 2) (k + 2) (omega arith) (omega arith), byte_cut (m + 3) (k + 3) (omega arith) h)

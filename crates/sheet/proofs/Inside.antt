-- The sheet at the front of checked bytes, and the statement behind it. Assumes nothing.
use mathlib.Core.Path.{◌≡◌, sym, ap, ◌∙◌}
use mathlib.Core.List.{List}
use Prim.Native.Nat.{ℕ, ◌+◌, ◌*◌, ◌<◌}
use native.Mathlib.Omega.{arith}
use lib.ListN.{length, get_or, take, drop, length-drop, take-append-drop}
use lib.Seq.{length-take-le, get_or-take}
use Rattle.std.specs.Prelude.{Ok}
use Rattle.sheet.specs.Layout.{sheet_of}
use Rattle.sheet.specs.Check.{checked}
use Rattle.sheet.proofs.Units.{sheet_append}
use Rattle.sheet.proofs.Fits.{fits}
use Rattle.sheet.proofs.Verdict.{part-checked}

module _ (bytes : List ℕ) where
  abbrev pub end : ℕ
  end = 48 + 32 * (sheet_of bytes).unit_count

  abbrev pub inside : List ℕ
  inside = take end bytes

  abbrev pub behind : List ℕ
  behind = drop end bytes

  -- n stands in the first 48 bytes
  same_count : (sheet_of inside).unit_count ≡ (sheet_of bytes).unit_count
  unfolding sheet_of
  same_count =
      let at : (k : ℕ) → k < 48 → get_or inside k 0 ≡ get_or bytes k 0 = λ k h. get_or-take end bytes k 0 (omega arith) in
      omega (arith, at 8 (omega arith), at 9 (omega arith))

  module _ (e : checked 64 bytes ≡ Ok tt) where
    pub all-length : length bytes ≡ 48 + 64 * (sheet_of bytes).unit_count
    all-length = (fits 64 bytes e).byte_count

    inside-length : length inside ≡ end
    inside-length = length-take-le end bytes (omega (arith, all-length))

    behind-length : length behind ≡ 32 * (sheet_of bytes).unit_count
    behind-length = omega (arith, length-drop end bytes, all-length)

    pub same-sheet : sheet_of bytes ≡ sheet_of inside
    same-sheet = ap sheet_of (sym (take-append-drop end bytes)) ∙ sheet_append inside behind (omega (arith, inside-length, same_count))

    pub inside-checked : checked 32 inside ≡ Ok tt
    inside-checked =
        sym (part-checked inside behind (omega (arith, inside-length, same_count)) (omega (arith, behind-length, same_count)))
        ∙ ap (checked 64) (take-append-drop end bytes)
        ∙ e

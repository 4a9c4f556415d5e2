-- Bytes that are more than any sheet has: what is refused of them stands in the header. Assumes nothing.
use mathlib.Core.Path.{◌≡◌, refl, sym, ap, ◌∙◌}
use mathlib.Core.Bool.{Bool, true, false}
use mathlib.Core.List.{List, ◌++◌, map}
use mathlib.Core.Logic.{inl, inr}
use Prim.Native.Nat.{ℕ, ◌+◌, ◌*◌, ◌≤◌, ◌<◌}
use native.Mathlib.Omega.{arith}
use borrow.Author.Tests.{leb-true, leb-false, le-leb, lt-leb, le-ltb, eqb-true, eqb-false, ne_eqb}
use lib.Dec.{leb, eqb}
use lib.ListN.{length, take, drop, length-append, take-append-drop}
use lib.Seq.{length-take-le, take-append-le}
use Rattle.sheet.specs.declared.refusal.Refusal.{Refusal}
use Rattle.std.specs.Prelude.{Err}
use Rattle.sheet.specs.declared.refusal.Refusal.TheVariants.{BadMagic, UnsupportedVersion, HeaderField}
use Rattle.sheet.specs.RuleSets.{newest}
use Rattle.sheet.specs.Refusals.{first_refusal}
use Rattle.sheet.specs.Layout.{Sheet, sheet_of}
use Rattle.sheet.specs.Check.{passes, ◌to◌, ◌within◌, header_tests, header_rule, same_list, sheet_magic, sheet_rules}
use Rattle.sheet.proofs.Units.{byte_append, le16_append, sheet_append}
use Rattle.sheet.proofs.Verdict.{bad-magic, bad-version, bad-header}
use Rattle.month.specs.Month.{refused, settle_rules, settled_sheet}
use Rattle.month.proofs.Lists.{decided}
use Rattle.printing.specs.Printed.{text_of, printed}
use Rattle.printing.specs.Theorems.{FirstBytesDecide}
use Rattle.printing.proofs.Answers.{refused-sheet}

-- ---- more than 160 units: mark, version, or the header's month, model or n
unfoldable refusal_by : (magic version month model : Bool) → Refusal
refusal_by false version month model = BadMagic
refusal_by true false month model = UnsupportedVersion
refusal_by true true false model = HeaderField 6
refusal_by true true true false = HeaderField 7
refusal_by true true true true = HeaderField 8

module _ (s : Sheet) (many : 160 < s.unit_count) where
  too_many : (month model : Bool) → passes (s.month within 1 to 12) ≡ month → passes (s.model within 1 to 5) ≡ model → first_refusal (map header_rule (header_tests s)) ≡ Err (refusal_by true true month model)
  unfolding header_tests first_refusal refusal_by
  too_many false model e f = rw e
  too_many true false e f = rw (e, f)
  too_many true true e f = rw (e, f, lt-leb s.unit_count 160 many, le-leb 1 s.unit_count (omega arith))

module _ (bytes : List ℕ) (long : 48 ≤ length bytes) (many : 160 < (sheet_of bytes).unit_count) where
  by-header : (magic version month model : Bool) → same_list (sheet_of bytes).magic sheet_magic ≡ magic → eqb (sheet_of bytes).version 1 ≡ version
      → passes ((sheet_of bytes).month within 1 to 12) ≡ month → passes ((sheet_of bytes).model within 1 to 5) ≡ model → settled_sheet newest bytes ≡ refused (refusal_by magic version month model)
  unfolding refusal_by
  by-header false version month model e f g h = refused-sheet bytes BadMagic (bad-magic 32 bytes long e)
  by-header true false month model e f g h = refused-sheet bytes UnsupportedVersion (bad-version 32 bytes long e (eqb-false (sheet_of bytes).version 1 f))
  by-header true true month model e f g h = refused-sheet bytes _ (bad-header 32 bytes long e (eqb-true (sheet_of bytes).version 1 f) (too_many (sheet_of bytes) many month model g h))

-- ---- the first 5,169 bytes, and more
module _ (xs ys : List ℕ) (long : length xs ≡ 5169) where
  fewer : (sheet_of xs).unit_count ≤ 160 → settled_sheet newest (xs ++ ys) ≡ settled_sheet newest xs
  unfolding settled_sheet settle_rules sheet_rules
  fewer h =
      let n = (sheet_of xs).unit_count in
      rw (sheet_append xs ys (omega arith), le-ltb (length (xs ++ ys)) 48 (omega (arith, length-append xs ys)), le-ltb (length xs) 48 (omega arith), ne_eqb (length (xs ++ ys)) (48 + 32 * n) (λ e. omega (arith, length-append xs ys)), ne_eqb (length xs) (48 + 32 * n) (λ e. omega arith))

  more : 160 < (sheet_of xs).unit_count → settled_sheet newest (xs ++ ys) ≡ settled_sheet newest xs
  unfolding sheet_of
  more h =
      by-header (xs ++ ys) (omega (arith, length-append xs ys)) (omega (arith, le16_append xs ys 8 (omega arith))) _ _ _ _
      (ap (λ (l : List ℕ). same_list l sheet_magic) (take-append-le 4 xs ys (omega arith)))
      (ap (λ (n : ℕ). eqb n 1) (le16_append xs ys 4 (omega arith)))
      (ap (λ (n : ℕ). passes (n within 1 to 12)) (byte_append xs ys 6 (omega arith)))
      (ap (λ (n : ℕ). passes (n within 1 to 5)) (byte_append xs ys 7 (omega arith)))
      ∙ sym (by-header xs (omega arith) h _ _ _ _ refl refl refl refl)

  same : settled_sheet newest (xs ++ ys) ≡ settled_sheet newest xs
  same = elim (decided (leb (sheet_of xs).unit_count 160)) [
    | inl e ↦ fewer (leb-true (sheet_of xs).unit_count 160 e)
    | inr e ↦ more (leb-false (sheet_of xs).unit_count 160 e)
  ]

pub first_bytes_decide : FirstBytesDecide
unfolding printed
first_bytes_decide bytes h =
    ap text_of (sym (same (take 5169 bytes) (drop 5169 bytes) (length-take-le 5169 bytes h)) ∙ ap (settled_sheet newest) (take-append-drop 5169 bytes))

-- Which of 1 to 5 refuses a sheet, by the tests on the way, and that the rows decide behind them; how a record part is checked. Assumes nothing.
use mathlib.Core.Path.{◌≡◌, sym, ap, ◌∙◌}
use mathlib.Core.Bool.{Bool, true, false, not}
use mathlib.Core.List.{List, [], ◌∷◌, ◌++◌, map}
use mathlib.Core.Option.{none}
use Prim.Native.Nat.{ℕ, ◌+◌, ◌*◌, ◌≤◌, ◌<◌}
use native.Mathlib.Omega.{arith}
use lib.Dec.{eqb}
use borrow.Author.Tests.{lt-ltb, le-ltb, eq-eqb, ne_eqb}
use lib.ListN.{length, length-append}
use Rattle.sheet.specs.declared.refusal.Refusal.{Refusal}
use Rattle.std.specs.Prelude.{Ok, Err}
use Rattle.sheet.specs.declared.refusal.Refusal.TheVariants.{TooShort, BadMagic, UnsupportedVersion, WrongLength}
use Rattle.sheet.specs.Refusals.{Rule, ◌⇒◌, first_refusal}
use Rattle.sheet.specs.Layout.{Sheet, sheet_of}
use Rattle.sheet.specs.Check.{checked, sheet_rules, header_tests, header_rule, row_rules, same_list}
use Rattle.sheet.proofs.Rules.{first-refused, first-accepted}
use Rattle.sheet.proofs.Units.{sheet_append}

module _ (width : ℕ) (bytes : List ℕ) where
  pub too_short : length bytes < 48 → checked width bytes ≡ Err TooShort
  unfolding checked sheet_rules first_refusal
  too_short h = rw (lt-ltb _ _ h)

  module _ (long : 48 ≤ length bytes) where
    pub bad-magic : same_list (sheet_of bytes).magic (72 ∷ 67 ∷ 83 ∷ 0 ∷ []) ≡ false → checked width bytes ≡ Err BadMagic
    unfolding checked sheet_rules first_refusal
    bad-magic e = rw (le-ltb _ _ long, e)

    module _ (magic : same_list (sheet_of bytes).magic (72 ∷ 67 ∷ 83 ∷ 0 ∷ []) ≡ true) where
      pub bad-version : ((sheet_of bytes).version ≡ 1 → ⊥) → checked width bytes ≡ Err UnsupportedVersion
      unfolding checked sheet_rules first_refusal
      bad-version h = rw (le-ltb _ _ long, magic, ne_eqb _ _ h)

      module _ (version : (sheet_of bytes).version ≡ 1) where
        abbrev header_rules : List Rule
        header_rules = map header_rule (header_tests (sheet_of bytes))

        abbrev behind : List Rule
        behind = (not (eqb (length bytes) (48 + width * (sheet_of bytes).unit_count)) ⇒ WrongLength) ∷ row_rules (sheet_of bytes) 0 none (sheet_of bytes).units

        to-header : checked width bytes ≡ first_refusal (header_rules ++ behind)
        unfolding checked sheet_rules first_refusal
        to-header = rw (le-ltb _ _ long, magic, eq-eqb _ _ version)

        pub bad-header : {r : Refusal} → first_refusal header_rules ≡ Err r → checked width bytes ≡ Err r
        bad-header e = to-header ∙ first-refused header_rules behind e

        module _ (header : first_refusal header_rules ≡ Ok tt) where
          pub bad-length : (length bytes ≡ 48 + width * (sheet_of bytes).unit_count → ⊥) → checked width bytes ≡ Err WrongLength
          unfolding first_refusal
          bad-length h = to-header ∙ first-accepted header_rules behind header ∙ rw (ne_eqb _ _ h)

          pub by_rows : length bytes ≡ 48 + width * (sheet_of bytes).unit_count → checked width bytes ≡ first_refusal (row_rules (sheet_of bytes) 0 none (sheet_of bytes).units)
          unfolding first_refusal
          by_rows h = to-header ∙ first-accepted header_rules behind header ∙ rw (eq-eqb _ _ h)

-- ---- a record part is checked as its sheet alone
abbrev rules_by : Bool → Bool → Sheet → List Rule
rules_by short fits s =
    (short ⇒ TooShort)
    ∷ (not (same_list s.magic (72 ∷ 67 ∷ 83 ∷ 0 ∷ [])) ⇒ BadMagic)
    ∷ (not (eqb s.version 1) ⇒ UnsupportedVersion)
    ∷ map header_rule (header_tests s)
    ++ (not fits ⇒ WrongLength)
    ∷ row_rules s 0 none s.units

pub part-checked : (xs ys : List ℕ) → length xs ≡ 48 + 32 * (sheet_of xs).unit_count → length ys ≡ 32 * (sheet_of xs).unit_count → checked 64 (xs ++ ys) ≡ checked 32 xs
unfolding checked sheet_rules
part-checked xs ys h k =
    let same = sheet_append xs ys (omega arith) in
    let count : (sheet_of (xs ++ ys)).unit_count ≡ (sheet_of xs).unit_count = ap (λ (s : Sheet). s.unit_count) same in
    let sum = length-append xs ys in
    let short = le-ltb (length (xs ++ ys)) 48 (omega arith) ∙ sym (le-ltb (length xs) 48 (omega arith)) in
    let fits = eq-eqb (length (xs ++ ys)) (48 + 64 * (sheet_of (xs ++ ys)).unit_count) (omega arith) ∙ sym (eq-eqb (length xs) (48 + 32 * (sheet_of xs).unit_count) h) in
    λ i. first_refusal (rules_by (short i) (fits i) (same i))

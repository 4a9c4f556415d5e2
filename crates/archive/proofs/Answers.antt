-- The answers of writer and reader, by the tests on the way. Assumes nothing.
use mathlib.Core.Path.{◌≡◌, refl, sym, ap, ◌∙◌}
use mathlib.Core.Bool.{Bool, not}
use mathlib.Core.List.{List, [], ◌∷◌}
use Prim.Native.Nat.{ℕ, ◌+◌, ◌*◌, ◌-◌, ◌≤◌}
use native.Mathlib.Omega.{arith}
use borrow.Author.Tests.{eq-eqb, ne_eqb}
use lib.ListN.{length, take, drop, replicate, length-drop}
use lib.Seq.{take_all}
use Rattle.std.specs.Prelude.{Result, Some, None, Ok, Err, IsOk, IsErrAnd}
use Rattle.sheet.specs.declared.refusal.Refusal.{Refusal}
use Rattle.sheet.specs.declared.refusal.Refusal.TheVariants.{BufferLength, BadArchive}
use Rattle.sheet.specs.Refusals.{Rule, ◌⇒◌, outcome_of, first_refusal}
use Rattle.sheet.specs.declared.rule_set.RuleSet.{RuleSet}
use Rattle.sheet.specs.RuleSets.{newest}
use Rattle.sheet.specs.Layout.{Sheet, sheet_of, in_bytes}
use Rattle.sheet.specs.Check.{same_list, sheet_rules, checked}
use Rattle.sheet.proofs.Views.{accepted, passed_fits}
use Rattle.sheet.proofs.Rules.{first-refused, first-accepted}
use Rattle.sheet.proofs.Inside.{end, inside, behind, all-length, same-sheet}
use Rattle.month.specs.Month.{settled, statement_of, month_of, month_rules, settled_sheet}
use Rattle.settlement.specs.Inner.Months.{month_answer, after_month}
use Rattle.settlement.proofs.Parts.{lent_length}
use Rattle.settlement.proofs.Answers.{settled-in_order, answer-is, settles, statement-is}
use Rattle.archive.specs.Record.{archive_record}
use Rattle.archive.specs.Reader.{body, head_of, body_rules, read_rules, read_outcome}
use Rattle.archive.specs.Writer.{write_answer, record_after}
use Rattle.archive.specs.Inner.Settled.{statement_rules}

-- ---- a `?` hands on the refusal of a call that answers with another value
pub handed : {A : Type 0} (answer : Result A Refusal) {r : Refusal} → IsErrAnd answer (λ (q : Refusal). q ≡ r) → outcome_of answer ≡ Err r
handed (Ok x) h = absurd h
handed (Err q) h = ap Err h

-- ---- the first 8n places of an array, lent
pub lent_room : (size : ℕ) {k n : ℕ} → k ≡ n → 8 * n ≤ size → length {A = ℕ} (take (8 * k) (replicate size 0)) ≡ 8 * n
lent_room size {k} e h = lent_length size (8 * k) (omega arith) ∙ ap (λ (n : ℕ). 8 * n) e

-- ---- the writer: 1 to 12, then 13
module _ (sheet list : List ℕ) where
  -- its answer, and what it leaves of the list
  abbrev Writes : Result (Unit {0}) Refusal → List ℕ → Type 0
  Writes answer after = (answer ≡ write_answer sheet list) × (after ≡ record_after sheet list)

  pub refused-sheet : {r : Refusal} → checked 32 sheet ≡ Err r → Writes (Err r) list
  unfolding write_answer record_after
  refused-sheet e = rw (settled-in_order newest sheet, e) (refl, refl)

  module _ (numbers : List ℕ) (passed : IsOk (checked 32 sheet)) (room : length numbers ≡ 8 * (sheet_of sheet).unit_count) where
    pub refused-month : {r : Refusal} → month_answer newest (sheet_of sheet) numbers ≡ Err r → Writes (Err r) list
    unfolding write_answer record_after
    refused-month e = rw (settled-in_order newest sheet, accepted _ passed, sym (answer-is newest (sheet_of sheet) numbers room) ∙ e) (refl, refl)

    module _ (ok : month_answer newest (sheet_of sheet) numbers ≡ Ok tt) where
      is-settled : settled_sheet newest sheet ≡ settled (month_of newest (sheet_of sheet))
      is-settled = settles newest sheet numbers (accepted _ passed) (sym (answer-is newest (sheet_of sheet) numbers room) ∙ ok)

      -- head, sheet and statement are 56 + 64n bytes
      pub wrong_length : (length list ≡ 8 + length sheet + 4 * length numbers → ⊥) → Writes (Err BufferLength) list
      unfolding write_answer record_after month_of
      wrong_length h = rw (is-settled, ne_eqb (length list) (56 + 64 * (sheet_of sheet).unit_count) (λ e. h (omega (arith, (passed_fits sheet passed).byte_count)))) (refl, refl)

      pub written : length list ≡ 8 + length sheet + 4 * length numbers → {after out : List ℕ} → after ≡ after_month newest (sheet_of sheet) numbers → out ≡ archive_record newest sheet after → Writes (Ok tt) out
      unfolding write_answer record_after month_of
      written h last e =
          rw (is-settled, eq-eqb (length list) (56 + 64 * (sheet_of sheet).unit_count) (omega (arith, (passed_fits sheet passed).byte_count)))
          (refl, e ∙ ap (archive_record newest sheet) (last ∙ statement-is newest (sheet_of sheet) numbers room ok))

-- ---- the reader: a sheet, and the statement behind it
module _ (rules : RuleSet) (s : Sheet) (numbers : List ℕ) (room : length numbers ≡ 8 * s.unit_count) (statement : List ℕ) where
  abbrev last : Bool → List Rule
  last same = (not same ⇒ BadArchive) ∷ []

  same : Bool
  same = same_list statement (in_bytes (statement_of rules s))

  month-is : first_refusal (month_rules s) ≡ month_answer rules s numbers
  month-is = sym (answer-is rules s numbers room)

  pub unsettled : {r : Refusal} → month_answer rules s numbers ≡ Err r → Err r ≡ first_refusal (statement_rules rules s statement)
  unfolding statement_rules
  unsettled e = sym (first-refused (month_rules s) _ (month-is ∙ e))

  pub by-statement : month_answer rules s numbers ≡ Ok tt → {after : List ℕ} {t u : Bool} → after ≡ after_month rules s numbers → t ≡ same_list statement (in_bytes after) → t ≡ u
      → first_refusal (last u) ≡ first_refusal (statement_rules rules s statement)
  unfolding statement_rules
  by-statement ok are is test =
      let numbers-are = are ∙ statement-is rules s numbers room ok in
      ap (λ (t : Bool). first_refusal (last t)) (sym test ∙ is ∙ ap (λ (ns : List ℕ). same_list statement (in_bytes ns)) numbers-are)
      ∙ sym (first-accepted (month_rules s) _ (month-is ∙ ok))

-- ---- the reader: 14, 1 to 7, then the above
-- a part up to the end, as the code cuts it
pub to_end : (a : ℕ) (xs : List ℕ) → take (length xs - a) (drop a xs) ≡ drop a xs
to_end a xs = take_all (length xs - a) (drop a xs) (omega (arith, length-drop a xs))

module _ (bytes : List ℕ) where
  pub wrong_head : head_of bytes ≡ None → Err BadArchive ≡ read_outcome bytes
  unfolding read_outcome read_rules first_refusal
  wrong_head h = rw h

  module _ {rules : RuleSet} (head : head_of bytes ≡ Some rules) {cut : List ℕ} (at : cut ≡ body bytes) where
    pub refused-part : {r : Refusal} → checked 64 cut ≡ Err r → Err r ≡ read_outcome bytes
    unfolding read_outcome read_rules checked
    refused-part e = rw head (sym (first-refused (sheet_rules 64 (body bytes)) (body_rules rules (body bytes)) (rw at at e)))

    pub by_part : checked 64 cut ≡ Ok tt → {sheet statement : List ℕ} → sheet ≡ inside cut → statement ≡ behind cut → first_refusal (statement_rules rules (sheet_of sheet) statement) ≡ read_outcome bytes
    unfolding read_outcome read_rules body_rules statement_rules checked
    by_part ok s t =
        let passes = rw at at ok in
        rw (head, s, t, at) (
        ap (λ (s : Sheet). first_refusal (statement_rules rules s (behind (body bytes)))) (sym (same-sheet (body bytes) passes))
        ∙ sym (first-accepted (sheet_rules 64 (body bytes)) (body_rules rules (body bytes)) passes)
        )

pub statement-length : (cut : List ℕ) {sheet statement : List ℕ} → checked 64 cut ≡ Ok tt → sheet ≡ inside cut → statement ≡ behind cut → length statement ≡ 32 * (sheet_of sheet).unit_count
statement-length cut ok s t = rw (s, t) (omega (arith, length-drop (end cut) cut, all-length cut ok, ap (λ (s : Sheet). s.unit_count) (same-sheet cut ok)))

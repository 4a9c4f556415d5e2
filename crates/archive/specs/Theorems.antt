-- What writer and reader promise each other, by the rules of every archive version.
use Rattle.std.specs.Prelude.{◌≡◌, List, ℕ, take, drop, Ok, Err}
use Rattle.sheet.specs.declared.rule_set.RuleSet.{RuleSet}
use Rattle.sheet.specs.RuleSets.{newest}
use Rattle.sheet.specs.Layout.{in_bytes}
use Rattle.sheet.specs.declared.refusal.Refusal.TheVariants.{BadArchive}
use Rattle.month.specs.Month.{Month, settled, settled_sheet}
use Rattle.archive.specs.Record.{archive_head, archive_record}
use Rattle.archive.specs.Writer.{write_answer, record_after}
use Rattle.archive.specs.Reader.{body, sheet_length, read_outcome}

-- a record with the right head of a version, and the sheet inside
abbrev pub RightHead : RuleSet → List ℕ → Type 0
RightHead rules record-bytes = take 8 record-bytes ≡ archive_head rules

abbrev pub sheet_inside : List ℕ → List ℕ
sheet_inside record-bytes = take (sheet_length record-bytes) (body record-bytes)

-- The statement behind the sheet is the settlement, by the rules, of the sheet inside.
pub record HoldsItsSettlement (rules : RuleSet) (record-bytes : List ℕ) : Type 0 where
  pub month : Month
  pub settles : settled_sheet rules (sheet_inside record-bytes) ≡ settled month
  pub statement : drop (sheet_length record-bytes) (body record-bytes) ≡ in_bytes month.numbers

-- A record with the right head of a version is accepted exactly when its statement is the settlement, by the rules of that version, of the sheet inside.
pub record AcceptedExactly (rules : RuleSet) (record-bytes : List ℕ) : Type 0 where
  pub only_if_lem : read_outcome record-bytes ≡ Ok tt → HoldsItsSettlement rules record-bytes
  pub if : HoldsItsSettlement rules record-bytes → read_outcome record-bytes ≡ Ok tt

abbrev pub ReaderAcceptsExactly : Type 0
ReaderAcceptsExactly = (rules : RuleSet) (record-bytes : List ℕ) → RightHead rules record-bytes → AcceptedExactly rules record-bytes

-- Any other head is wrong.
abbrev pub OtherHeadsRefused : Type 0
OtherHeadsRefused = (record-bytes : List ℕ) → ((rules : RuleSet) → RightHead rules record-bytes → ⊥) → read_outcome record-bytes ≡ Err BadArchive

-- The record of a settled sheet, of every version, is read back as that sheet.
pub record ReadBack (rules : RuleSet) (sheet : List ℕ) (m : Month) : Type 0 where
  pub accepted : read_outcome (archive_record rules sheet m.numbers) ≡ Ok tt
  pub same-sheet : sheet_inside (archive_record rules sheet m.numbers) ≡ sheet

abbrev pub WrittenIsReadBack : Type 0
WrittenIsReadBack = (rules : RuleSet) (sheet : List ℕ) (m : Month) → settled_sheet rules sheet ≡ settled m → ReadBack rules sheet m

-- What the writer writes is read back as that sheet, and has the newest version's head.
pub record WriterReadBack (sheet list : List ℕ) : Type 0 where
  pub head : RightHead newest (record_after sheet list)
  pub accepted : read_outcome (record_after sheet list) ≡ Ok tt
  pub same-sheet : sheet_inside (record_after sheet list) ≡ sheet

abbrev pub WriterIsReadBack : Type 0
WriterIsReadBack = (sheet list : List ℕ) → write_answer sheet list ≡ Ok tt → WriterReadBack sheet list

-- Two accepted records with the same version and the same sheet are the same bytes.
abbrev pub OneRecordASheet : Type 0
OneRecordASheet = (rules : RuleSet) (a b : List ℕ) → RightHead rules a → RightHead rules b → read_outcome a ≡ Ok tt → read_outcome b ≡ Ok tt → sheet_inside a ≡ sheet_inside b → a ≡ b

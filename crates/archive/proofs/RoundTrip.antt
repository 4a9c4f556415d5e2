-- THE THEOREMS OF specs/Theorems.antt. Assumes nothing.
use mathlib.Core.Path.{◌≡◌, refl, sym, ap, ap₂, subst, ◌∙◌}
use mathlib.Core.Bool.{true}
use mathlib.Core.Logic.{inl, inr}
use mathlib.Core.List.{List, ◌++◌}
use Prim.Native.Nat.{ℕ, ◌+◌, ◌*◌}
use native.Mathlib.Omega.{arith}
use lib.Dec.{eqb}
use lib.ListN.{length, take, drop, take-append-drop}
use lib.Seq.{take_at, drop_at}
use borrow.Author.Tests.{not-false}
use Rattle.sheet.specs.declared.refusal.Refusal.{Refusal}
use Rattle.std.specs.Prelude.{Option, None, Some, Ok}
use Rattle.sheet.specs.Refusals.{first_refusal}
use Rattle.sheet.specs.declared.rule_set.RuleSet.{RuleSet}
use Rattle.sheet.specs.RuleSets.{rule_sets, newest}
use Rattle.sheet.specs.Layout.{Sheet, sheet_of, in_bytes}
use Rattle.sheet.specs.Check.{same_list, sheet_rules, checked}
use Rattle.sheet.proofs.Passed.{NoneHolds, none-holds, holds-none, both-none, none_of-both}
use Rattle.sheet.proofs.Units.{sheet_append}
use Rattle.sheet.proofs.Fits.{fits}
use Rattle.sheet.proofs.Verdict.{part-checked}
use Rattle.month.specs.Month.{Month, month_rules, statement_of, month_of, Settled, refused, settled, settle_rules, settled_sheet}
use Rattle.month.proofs.Lists.{decided}
use Rattle.month.proofs.Laws.{settled-month, settled-laws}
use Rattle.archive.specs.Record.{archive_head, archive_record}
use Rattle.archive.specs.Writer.{write_answer, record_after}
use Rattle.archive.specs.Reader.{body, sheet_length, head_of, body_rules, read_rules, read_outcome}
use Rattle.archive.specs.Theorems.{RightHead, sheet_inside, HoldsItsSettlement, ReaderAcceptsExactly, OtherHeadsRefused, WrittenIsReadBack, WriterReadBack, WriterIsReadBack, OneRecordASheet}
use Rattle.archive.proofs.Bytes.{same_itself, same_equal, bytes-length}
use Rattle.archive.proofs.Heads.{right_of, head-is, wrong_of}
use Rattle.sheet.proofs.Inside.{same-sheet, inside-checked}

-- ---- a sheet that settles, with its statement behind it
module _ (rules : RuleSet) (sheet : List ℕ) (m : Month) (e : settled_sheet rules sheet ≡ settled m) where
  abbrev behind : List ℕ
  behind = in_bytes m.numbers

  passed : (checked 32 sheet ≡ Ok tt) × NoneHolds (month_rules (sheet_of sheet))
  unfolding settle_rules checked
  passed =
      let both = none_of-both (sheet_rules 32 sheet) (month_rules (sheet_of sheet)) (none-holds _ (settled-month rules sheet m e).0) in
      (holds-none _ both.0, both.1)

  sheet_length_lem : length sheet ≡ 48 + 32 * (sheet_of sheet).unit_count
  sheet_length_lem = (fits 32 sheet passed.0).byte_count

  is-month : m ≡ month_of rules (sheet_of sheet)
  is-month = (settled-month rules sheet m e).1

  behind-length : length behind ≡ 32 * (sheet_of sheet).unit_count
  unfolding month_of
  behind-length = omega (arith, bytes-length m.numbers, (settled-laws rules sheet m e).count, ap (λ (m : Month). m.unit_count) is-month)

  same : sheet_of (sheet ++ behind) ≡ sheet_of sheet
  same = sheet_append sheet behind (omega (arith, sheet_length_lem))

  part-passes : NoneHolds (sheet_rules 64 (sheet ++ behind))
  unfolding checked
  part-passes = none-holds _ (part-checked sheet behind sheet_length_lem behind-length ∙ passed.0)

  same-statement : same_list (drop (48 + 32 * (sheet_of (sheet ++ behind)).unit_count) (sheet ++ behind)) (in_bytes (statement_of rules (sheet_of (sheet ++ behind)))) ≡ true
  unfolding month_of
  same-statement =
      rw (same, ← ap (λ (m : Month). m.numbers) is-month, drop_at sheet behind (48 + 32 * (sheet_of sheet).unit_count) sheet_length_lem) (same_itself behind)

  body-passes : NoneHolds (body_rules rules (sheet ++ behind))
  unfolding body_rules
  body-passes = both-none (month_rules (sheet_of (sheet ++ behind))) _ (rw same passed.1) (rw same-statement, tt)

  record_accepted : read_outcome (archive_record rules sheet m.numbers) ≡ Ok tt
  unfolding read_outcome read_rules archive_record
  record_accepted =
      rw (right_of rules (archive_head rules ++ (sheet ++ behind)) refl)
      (holds-none _ (both-none (sheet_rules 64 (sheet ++ behind)) (body_rules rules (sheet ++ behind)) part-passes body-passes))

  sheet-back : sheet_inside (archive_record rules sheet m.numbers) ≡ sheet
  unfolding archive_record
  sheet-back = rw same (take_at sheet behind (48 + 32 * (sheet_of sheet).unit_count) sheet_length_lem)

-- ---- a record with the right head is its head, the sheet inside and what is behind
module _ (rules : RuleSet) (r : List ℕ) (head : RightHead rules r) where
  held : (m : Month) → drop (sheet_length r) (body r) ≡ in_bytes m.numbers → archive_record rules (sheet_inside r) m.numbers ≡ r
  unfolding archive_record
  held m e =
      ap₂ (λ (x y : List ℕ). x ++ y) (sym head) (ap (λ (x : List ℕ). sheet_inside r ++ x) (sym e) ∙ take-append-drop (sheet_length r) (body r))
      ∙ take-append-drop 8 r

-- ---- what is accepted
-- has a right head
record Headed (r : List ℕ) : Type 0 where
  rules : RuleSet
  right : RightHead rules r

headed : (r : List ℕ) → read_outcome r ≡ Ok tt → Headed r
unfolding read_outcome read_rules first_refusal
headed r e = go (head_of r) refl e
  where
    go : (h : Option RuleSet) → head_of r ≡ h → first_refusal (read_rules h r) ≡ Ok tt → Headed r
    go None n e = absurd (let z : ◌≡◌ {A = ℕ} 0 1 = cc in omega arith)
    go (Some rules) n e = record { rules = rules; right = head-is rules rule_sets (take 8 r) n }

module _ (rules : RuleSet) (r : List ℕ) (head : RightHead rules r) (e : read_outcome r ≡ Ok tt) where
  both_pass : NoneHolds (sheet_rules 64 (body r)) × NoneHolds (body_rules rules (body r))
  unfolding read_outcome read_rules
  both_pass =
      let k = ap (λ (h : Option RuleSet). first_refusal (read_rules h r)) (right_of rules r head) in
      none_of-both (sheet_rules 64 (body r)) (body_rules rules (body r)) (none-holds _ (sym k ∙ e))

  body-checked : checked 64 (body r) ≡ Ok tt
  unfolding checked
  body-checked = holds-none (sheet_rules 64 (body r)) both_pass.0

  body_pass : NoneHolds (month_rules (sheet_of (body r))) × (drop (sheet_length r) (body r) ≡ in_bytes (statement_of rules (sheet_of (body r))))
  unfolding body_rules
  body_pass =
      let p = none_of-both (month_rules (sheet_of (body r))) _ both_pass.1 in
      (p.0, same_equal _ _ (not-false _ p.1.0))

  unrefused : first_refusal (settle_rules (sheet_inside r)) ≡ Ok tt
  unfolding settle_rules checked
  unrefused =
      holds-none _
      (both-none (sheet_rules 32 (sheet_inside r)) (month_rules (sheet_of (sheet_inside r)))
      (none-holds _ (inside-checked (body r) body-checked))
      (subst (λ (s : Sheet). NoneHolds (month_rules s)) (same-sheet (body r) body-checked) body_pass.0))

  holds : HoldsItsSettlement rules r
  unfolding settled_sheet month_of
  holds = record {
    month = month_of rules (sheet_of (sheet_inside r));
    settles = rw unrefused;
    statement = body_pass.1 ∙ ap (λ (s : Sheet). in_bytes (statement_of rules s)) (same-sheet (body r) body-checked);
  }

pub checked-body : (r : List ℕ) → read_outcome r ≡ Ok tt → checked 64 (body r) ≡ Ok tt
checked-body r e = let h = headed r e in body-checked h.rules r h.right e

-- THE READER ACCEPTS A RECORD WITH THE RIGHT HEAD OF A VERSION EXACTLY WHEN ITS STATEMENT IS THE SETTLEMENT, BY ITS RULES, OF THE SHEET INSIDE
pub reader_accepts_exactly : ReaderAcceptsExactly
reader_accepts_exactly rules r head = record {
  only_if_lem = holds rules r head;
  if = λ h. subst (λ (x : List ℕ). read_outcome x ≡ Ok tt) (held rules r head h.month h.statement) (record_accepted rules (sheet_inside r) h.month h.settles);
}

-- ANY OTHER HEAD IS REFUSED
pub other_heads_refused : OtherHeadsRefused
unfolding read_outcome read_rules first_refusal
other_heads_refused r h = rw (wrong_of rule_sets (take 8 r) h)

-- THE RECORD OF A SETTLED SHEET IS READ BACK AS THAT SHEET
pub written-is_read-back : WrittenIsReadBack
written-is_read-back rules sheet m e = record { accepted = record_accepted rules sheet m e; same-sheet = sheet-back rules sheet m e }

-- AND SO IS WHAT THE WRITER WRITES
taken : (sheet list : List ℕ) (m : Month) → settled_sheet newest sheet ≡ settled m → write_answer sheet list ≡ Ok tt → record_after sheet list ≡ archive_record newest sheet m.numbers
unfolding write_answer record_after
taken sheet list m s e = elim (decided (eqb (length list) (56 + 64 * m.unit_count))) [
  | inl t ↦ rw (s, t)
  | inr t ↦ let k = rw (s, t) at e in absurd (let z : ◌≡◌ {A = ℕ} 0 1 = cc in omega arith)
]

refused_none : (sheet list : List ℕ) (r : Refusal) → settled_sheet newest sheet ≡ refused r → write_answer sheet list ≡ Ok tt → ⊥
unfolding write_answer
refused_none sheet list r s e = let k = rw s at e in absurd (let z : ◌≡◌ {A = ℕ} 0 1 = cc in omega arith)

pub writer_is_read_back : WriterIsReadBack
unfolding archive_record
writer_is_read_back sheet list e = go (settled_sheet newest sheet) refl
  where
    go : (o : Settled) → settled_sheet newest sheet ≡ o → WriterReadBack sheet list
    go (refused r) s = absurd (refused_none sheet list r s e)
    go (settled m) s =
        let w = taken sheet list m s e in
        let back = written-is_read-back newest sheet m s in
        record { head = rw w; accepted = rw w back.accepted; same-sheet = rw w back.same-sheet }

-- TWO ACCEPTED RECORDS WITH THE SAME VERSION AND THE SAME SHEET ARE THE SAME BYTES
pub one-record_a-sheet : OneRecordASheet
one-record_a-sheet rules a b p q e f s =
    let h = holds rules a p e in
    let k = holds rules b q f in
    let m : h.month ≡ k.month = cc (h.settles, k.settles, ap (settled_sheet rules) s) in
    sym (held rules a p h.month h.statement)
    ∙ ap₂ (λ (x : List ℕ) (m : Month). archive_record rules x m.numbers) s m
    ∙ held rules b q k.month k.statement

-- The archive reader, of any bytes (document 01, "Archive record", refusal 14).
use Rattle.std.specs.Prelude.{true, not, ◌≡◌, List, [], ◌∷◌, ◌++◌, ℕ, ◌+◌, ◌*◌, take, drop, if◌then◌else◌, Option, None, Some, Ok, Err}
use Rattle.std.specs.Borrow.{Bor}
use Rattle.sheet.specs.declared.refusal.Refusal.TheVariants.{BadArchive}
use Rattle.sheet.specs.Refusals.{Outcome, Rule, ◌⇒◌, first_refusal}
use Rattle.sheet.specs.declared.rule_set.RuleSet.{RuleSet}
use Rattle.sheet.specs.RuleSets.{rule_sets}
use Rattle.sheet.specs.Layout.{sheet_of, in_bytes}
use Rattle.sheet.specs.Check.{same_list, sheet_rules}
use Rattle.month.specs.Month.{month_rules, statement_of}
use Rattle.archive.specs.Record.{archive_head}

-- the record from byte 8 on: the sheet and its statement
abbrev pub body : List ℕ → List ℕ
body record-bytes = drop 8 record-bytes

abbrev pub sheet_length : List ℕ → ℕ
sheet_length record-bytes = 48 + 32 * (sheet_of (body record-bytes)).unit_count

-- the rules of the archive version whose head it is, or none
unfoldable pub head_among : List RuleSet → List ℕ → Option RuleSet
head_among [] bytes = None
head_among (rules ∷ more) bytes = if same_list bytes (archive_head rules) then Some rules else head_among more bytes

abbrev pub head_of : List ℕ → Option RuleSet
head_of record-bytes = head_among rule_sets (take 8 record-bytes)

-- 8 to 12 of the sheet in front, then 14 on a statement that differs in any byte from the settlement by the rules
unfoldable pub body_rules : RuleSet → List ℕ → List Rule
body_rules rules bytes =
    let s = sheet_of bytes in
    month_rules s ++ (not (same_list (drop (48 + 32 * s.unit_count) bytes) (in_bytes (statement_of rules s))) ⇒ BadArchive) ∷ []

-- 14 where no version has the head, as fewer than 8 bytes are; else the sheet's 1 to 7, where 5 wants 48 + 64n, then the above by the head's rules
unfoldable pub read_rules : Option RuleSet → List ℕ → List Rule
read_rules None record-bytes = (true ⇒ BadArchive) ∷ []
read_rules (Some rules) record-bytes = sheet_rules 64 (body record-bytes) ++ body_rules rules (body record-bytes)

unfoldable pub read_outcome : List ℕ → Outcome
read_outcome record-bytes = first_refusal (read_rules (head_of record-bytes) record-bytes)

-- the sheet's part of the record: from byte 8, or the empty part at the record's start
abbrev pub start_of : Outcome → ℕ
start_of (Ok tt) = 8
start_of (Err r) = 0

abbrev pub count_of : Outcome → List ℕ → ℕ
count_of (Ok tt) record-bytes = sheet_length record-bytes
count_of (Err r) record-bytes = 0

-- r is the very part of s that starts at a and has k bytes: the same memory, the place moved by a, the same bytes
pub record PartOf (r s : Bor (List ℕ)) (a k : ℕ) : Type 0 where
  pub block : r.ref_ptr.0 ≡ s.ref_ptr.0
  pub offset : r.ref_ptr.1 ≡ a + s.ref_ptr.1
  pub bytes : r.now ≡ take k (drop a s.now)

-- r is the sheet as the very part of the record s that holds it; on a refusal the empty part at the record's start
abbrev pub SheetPart : (r s : Bor (List ℕ)) → Type 0
SheetPart r s = let o = read_outcome s.now in PartOf r s (start_of o) (count_of o s.now)

-- The archive writer, of a sheet by the newest rules into a lent list (document 01, "Archive record"): 1 to 12, then 13 unless the list has 56 + 64n bytes.
use Rattle.std.specs.Prelude.{List, ℕ, ◌+◌, ◌*◌, eqb, length, if◌then◌else◌, Ok, Err}
use Rattle.sheet.specs.declared.refusal.Refusal.TheVariants.{BufferLength}
use Rattle.sheet.specs.Refusals.{Outcome}
use Rattle.sheet.specs.RuleSets.{newest}
use Rattle.month.specs.Month.{Settled, refused, settled, settled_sheet}
use Rattle.archive.specs.Record.{archive_record}

abbrev pub answer_of : Settled → ℕ → Outcome
answer_of (refused r) room = Err r
answer_of (settled m) room = if eqb room (56 + 64 * m.unit_count) then Ok tt else Err BufferLength

unfoldable pub write_answer : (sheet list : List ℕ) → Outcome
write_answer sheet list = answer_of (settled_sheet newest sheet) (length list)

-- accepted, every byte of the list is the record's; refused, it keeps its contents
abbrev pub list_of : Settled → (sheet list : List ℕ) → List ℕ
list_of (refused r) sheet list = list
list_of (settled m) sheet list = if eqb (length list) (56 + 64 * m.unit_count) then archive_record newest sheet m.numbers else list

unfoldable pub record_after : (sheet list : List ℕ) → List ℕ
record_after sheet list = list_of (settled_sheet newest sheet) sheet list

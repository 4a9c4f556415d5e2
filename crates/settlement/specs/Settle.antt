-- The answers of the calls that settle a sheet by the rules: 1 to 12, then 13.
use Rattle.std.specs.Prelude.{List, ℕ, ◌*◌, eqb, length, if◌then◌else◌, Ok, Err}
use Rattle.sheet.specs.declared.refusal.Refusal.TheVariants.{BufferLength}
use Rattle.sheet.specs.Refusals.{Outcome}
use Rattle.sheet.specs.declared.rule_set.RuleSet.{RuleSet}
use Rattle.month.specs.Month.{Settled, refused, settled, settled_sheet}

-- `settle`: 1 to 12, then 13 unless the list has 8n numbers
abbrev pub answer_of : Settled → ℕ → Outcome
answer_of (refused r) room = Err r
answer_of (settled m) room = if eqb room (8 * m.unit_count) then Ok tt else Err BufferLength

unfoldable pub settle_answer : RuleSet → List ℕ → List ℕ → Outcome
settle_answer rules bytes list = answer_of (settled_sheet rules bytes) (length list)

-- accepted, the list is the statement; refused, it keeps its contents
abbrev pub list_of : Settled → List ℕ → List ℕ
list_of (refused r) list = list
list_of (settled m) list = if eqb (length list) (8 * m.unit_count) then m.numbers else list

unfoldable pub statement_after : RuleSet → List ℕ → List ℕ → List ℕ
statement_after rules bytes list = list_of (settled_sheet rules bytes) list

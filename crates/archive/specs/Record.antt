-- The archive record of a settled sheet: head, sheet, statement (document 01, "Archive record").
use Rattle.std.specs.Prelude.{List, [], ◌∷◌, ◌++◌, ℕ}
use Rattle.sheet.specs.declared.rule_set.RuleSet.{RuleSet}
use Rattle.sheet.specs.RuleSets.{archive_version}
use Rattle.sheet.specs.Layout.{in_bytes}

-- `HCA`, 0, the archive version in 16 bits, two zeros
abbrev pub archive_head : RuleSet → List ℕ
archive_head rules = 72 ∷ 67 ∷ 65 ∷ 0 ∷ archive_version rules ∷ 0 ∷ 0 ∷ 0 ∷ []

-- the head, the sheet, the statement: 32 bytes a unit
unfoldable pub archive_record : RuleSet → (sheet statement : List ℕ) → List ℕ
archive_record rules sheet statement = archive_head rules ++ (sheet ++ in_bytes statement)

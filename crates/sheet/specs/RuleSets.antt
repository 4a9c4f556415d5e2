-- The rules by which a month is settled, by archive version (document 02): a record is read by the rules of its own time. Each property is given by case.
use Rattle.std.specs.Prelude.{Bool, true, false, List, [], ◌∷◌, ℕ}
use Rattle.sheet.specs.declared.rule_set.RuleSet.{RuleSet}
use Rattle.sheet.specs.declared.rule_set.RuleSet.TheVariants.{Archive1, Archive2, Archive3}
use Rattle.apportion.specs.declared.tie_rule.TieRule.{TieRule}
use Rattle.apportion.specs.declared.tie_rule.TieRule.TheVariants.{EarlierFirst, LargerFirst}

-- every archive version that is read
abbrev pub rule_sets : List RuleSet
rule_sets = Archive1 ∷ Archive2 ∷ Archive3 ∷ []

-- the number in a record's head
abbrev pub archive_version : RuleSet → ℕ
archive_version Archive1 = 1  -- document 01
archive_version Archive2 = 2  -- 2026-01
archive_version Archive3 = 3  -- 2026-06

-- step 4 limits r of model 4 (2026-01)
abbrev pub limits_risers : RuleSet → Bool
limits_risers Archive1 = false
limits_risers Archive2 = true
limits_risers Archive3 = true

-- which of equal remainders comes first, wherever something is divided (2026-06)
abbrev pub ties : RuleSet → TieRule
ties Archive1 = EarlierFirst
ties Archive2 = EarlierFirst
ties Archive3 = LargerFirst

-- new records, statements, year books and prints go by these
abbrev pub newest : RuleSet
newest = Archive3

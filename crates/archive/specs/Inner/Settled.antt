-- A sheet that passes 1 to 7, and the statement that stands behind it in a record.
use Rattle.std.specs.Prelude.{not, List, [], ◌∷◌, ◌++◌, ℕ}
use Rattle.sheet.specs.declared.refusal.Refusal.TheVariants.{BadArchive}
use Rattle.sheet.specs.declared.rule_set.RuleSet.{RuleSet}
use Rattle.sheet.specs.Refusals.{Rule, ◌⇒◌}
use Rattle.sheet.specs.Layout.{Sheet, in_bytes}
use Rattle.sheet.specs.Check.{same_list}
use Rattle.month.specs.Month.{month_rules, statement_of}

-- 8 to 12, then 14 on a statement that differs from the settlement by the rules
unfoldable pub statement_rules : RuleSet → Sheet → List ℕ → List Rule
statement_rules rules s statement = month_rules s ++ (not (same_list statement (in_bytes (statement_of rules s))) ⇒ BadArchive) ∷ []

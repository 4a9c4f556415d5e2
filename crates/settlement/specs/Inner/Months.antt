-- A sheet's month by itself: 8 to 12, then 13. Behind 1 to 7 it is what the calls that settle a sheet answer (proofs/Answers.by_month).
use Rattle.std.specs.Prelude.{List, ℕ, length}
use Rattle.sheet.specs.declared.rule_set.RuleSet.{RuleSet}
use Rattle.sheet.specs.Refusals.{Outcome, first_refusal}
use Rattle.sheet.specs.Layout.{Sheet}
use Rattle.month.specs.Month.{Settled, month_rules, month_of, unless_refused}
use Rattle.settlement.specs.Settle.{answer_of, list_of}

abbrev pub settled_month : RuleSet → Sheet → Settled
settled_month rules s = unless_refused (first_refusal (month_rules s)) (month_of rules s)

unfoldable pub month_answer : RuleSet → Sheet → List ℕ → Outcome
month_answer rules s list = answer_of (settled_month rules s) (length list)

unfoldable pub after_month : RuleSet → Sheet → List ℕ → List ℕ
after_month rules s list = list_of (settled_month rules s) list

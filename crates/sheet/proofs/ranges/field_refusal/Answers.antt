use mathlib.Core.Path.{sym, ap, ◌∙◌}
use mathlib.Core.Bool.{Bool}
use Rattle.sheet.specs.Check.{row_tests}
use Rattle.sheet.specs.Inner.FieldRanges.{refusal_by}
use Rattle.sheet.proofs.ranges.field_refusal.Goals as goal

pub returns-then-contains : goal.returns-then-contains
unfolding row_tests
returns-then-contains c = ap (λ (t : Bool). refusal_by t c.args.row) (sym (sym c.contains.ensures ∙ c.if-contains.true))

pub returns-else-contains : goal.returns-else-contains
unfolding row_tests
returns-else-contains c = ap (λ (t : Bool). refusal_by t c.args.row) (sym (sym c.contains.ensures ∙ c.if-contains.false))

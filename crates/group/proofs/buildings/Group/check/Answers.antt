use mathlib.Core.Path.{sym, ◌∙◌}
use Rattle.sheet.specs.Refusals.{first_refusal}
use Rattle.group.proofs.buildings.Group.check.Goals as goal

pub returns-then-bad_group-clause-answer : goal.returns-then-bad_group-clause-answer
unfolding first_refusal
returns-then-bad_group-clause-answer c = rw (sym c.bad_group.ensures ∙ c.if-bad_group.true)

pub returns-clause-answer : goal.returns-clause-answer
unfolding first_refusal
returns-clause-answer c = rw (sym c.bad_group.ensures ∙ c.if-bad_group.false)

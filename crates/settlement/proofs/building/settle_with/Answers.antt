use mathlib.Core.Path.{◌∙◌}
use Rattle.sheet.proofs.Rules.{brings}
use Rattle.settlement.proofs.Charging.{both-accepted}
use Rattle.settlement.proofs.building.settle_with.Goals as goal

pub unwrap-month-requires : goal.unwrap-month-requires
unwrap-month-requires c = brings c.measure.result (c.measure.ensures.answer ∙ (both-accepted _ c.requires.accepted).1)

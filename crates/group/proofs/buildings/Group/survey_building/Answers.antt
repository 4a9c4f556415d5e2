use native.Mathlib.Omega.{arith}
use Rattle.group.proofs.Parts.{placed}
use Rattle.group.proofs.buildings.Group.survey_building.Goals as goal

pub overflow_cast-building : goal.overflow_cast-building
overflow_cast-building c = omega (arith, (placed _ _ _ c.args.self.good).few)

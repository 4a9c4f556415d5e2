use native.Mathlib.Omega.{arith}
use Rattle.group.proofs.Parts.{placed}
use Rattle.group.proofs.buildings.Group.part.Goals as goal

pub overflow_add-to : goal.overflow_add-to
overflow_add-to c = omega (arith, (placed _ _ _ c.args.self.good).inside c.args.i c.requires)

pub slice_bounds-result-end : goal.slice_bounds-result-end
slice_bounds-result-end c = omega (arith, (placed _ _ _ c.args.self.good).inside c.args.i c.requires)

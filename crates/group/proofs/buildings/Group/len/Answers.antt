use mathlib.Core.Path.{refl}
use Rattle.group.proofs.Parts.{placed}
use Rattle.group.proofs.buildings.Group.len.Goals as goal

pub returns : goal.returns
returns c = let p = placed _ _ _ c.args.self.good in (refl, p.some, p.few)

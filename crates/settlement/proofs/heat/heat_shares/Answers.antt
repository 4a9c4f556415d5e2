use mathlib.Core.Path.{refl}
use Rattle.settlement.proofs.Dividing.{by_area_lem, common_heat-is}
use Rattle.settlement.proofs.heat.heat_shares.Goals as goal

pub divide_by-requires : goal.divide_by-requires
divide_by-requires c = (c.requires.2, by_area_lem c.args.month.now _ c.requires.1)

pub returns : goal.returns
returns c = record { units_after = c.unit_heat.ensures; common_after = common_heat-is c.args.month.now c.divide_by.new.out refl c.divide_by.ensures }

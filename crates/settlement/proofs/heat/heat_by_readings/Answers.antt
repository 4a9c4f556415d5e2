use mathlib.Core.Path.{refl}
use Rattle.settlement.proofs.Pool.{pool-divides, heat-is}
use Rattle.settlement.proofs.heat.heat_by_readings.Goals as goal

pub divide_by-requires : goal.divide_by-requires
divide_by-requires c =
    let p = c.requires in
    let f = c.pool_shares-m in
    (refl, pool-divides c.args.month.now p.model p.unmetered f.new.out f.ensures.few.1 f.ensures.shares c.from-pool.ensures)

pub returns : goal.returns
returns c =
    let p = c.requires in
    let f = c.pool_shares-m in
    let d = c.divide_by in
    heat-is c.args.month.now p.model p.unmetered f.new.out f.ensures.few.1 f.ensures.shares c.from-pool.ensures d.new.out d.ensures c.merge.ensures

use mathlib.Core.Path.{sym, ap, ap₂, ◌∙◌}
use Prim.Native.Nat.{ℕ, ◌+◌, ◌*◌, ◌/◌, ◌≤◌}
use native.Mathlib.Omega.{arith}
use Rattle.month.specs.Steps.{hot_water}
use Rattle.month.specs.Month.{hot_water_wh}
use Rattle.month.proofs.Accepted.{fits-checked}
use Rattle.month.proofs.Bounds.{sum_bounds}
use Rattle.weights.proofs.hot_water.hot_water.Goals.{After-from-factor}
use Rattle.weights.proofs.hot_water.hot_water.Goals as goal

pub returns-in-NoWater : goal.returns-in-NoWater
unfolding hot_water_wh hot_water
returns-in-NoWater c = rw (← c.in-NoWater.ensures)

pub returns-in-Meter : goal.returns-in-Meter
unfolding hot_water_wh hot_water
returns-in-Meter c = rw (← c.in-Meter.ensures) (c.from-reading.ensures ∙ c.header.ensures)

product : (c : After-from-factor) → (100 + c.from-factor.result) * 54 * c.from-reading.result ≤ 324000000000
product c =
    let b = sum_bounds _ (fits-checked c.args.sheet.fits) in
    rw (c.from-factor.ensures, c.header-in-HeatedColdWater.ensures, c.from-reading.ensures, c.header.ensures) (b.litres-heated (sym c.in-HeatedColdWater.ensures))

pub overflow_mul-result-in-HeatedColdWater : goal.overflow_mul-result-in-HeatedColdWater
overflow_mul-result-in-HeatedColdWater c = omega (arith, product c)

pub overflow_add-result-in-HeatedColdWater : goal.overflow_add-result-in-HeatedColdWater
overflow_add-result-in-HeatedColdWater c = omega (arith, product c)

pub returns-in-HeatedColdWater : goal.returns-in-HeatedColdWater
unfolding hot_water_wh hot_water
returns-in-HeatedColdWater c =
    rw (← c.in-HeatedColdWater.ensures)
    (ap₂ (λ (t h : ℕ). ((100 + t) * 54 * h + 99) / 100) (c.from-factor.ensures ∙ c.header-in-HeatedColdWater.ensures) (c.from-reading.ensures ∙ c.header.ensures))

pub returns-in-SummerReadings : goal.returns-in-SummerReadings
unfolding hot_water_wh hot_water
returns-in-SummerReadings c = rw (← c.in-SummerReadings.ensures) (ap (λ (h : ℕ). (115 * h + 599) / 600) c.all_readings.ensures.0)

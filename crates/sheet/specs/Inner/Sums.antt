-- Sums of amounts of Wh: without an amount a sum is past every limit.
use Rattle.std.specs.Prelude.{Bool, true, ℕ, ltb, Option, Some, None}
use Rattle.sheet.specs.declared.watt_hours.Wh.{Wh}
use Rattle.sheet.specs.WattHours.{wh_in}

abbrev pub past_sum : Option Wh → ℕ → Bool
past_sum (Some a) limit = ltb limit (wh_in a)
past_sum None limit = true

-- the number of Wh, 0 where there is no amount
abbrev pub wh_in_sum : Option Wh → ℕ
wh_in_sum (Some a) = wh_in a
wh_in_sum None = 0

-- What a sheet has that none of the refusals 1 to 12 meets: plain facts for the laws and for the code. proofs/Accepted.antt shows them.
use Rattle.std.specs.Prelude.{true, false, ◌≡◌, ◌*◌, ◌≤◌, ◌<◌, length}
use Rattle.apportion.specs.Shares.{sum}
use Rattle.sheet.specs.Layout.{Sheet}
use Rattle.sheet.specs.Inner.Fits.{UnitFits, HeaderFits}
use Rattle.sheet.specs.Tests.{Each}
use Rattle.month.specs.Weights.{read_units, all_metered, metered_sum, has_pool, total_area, unread_weights}
use Rattle.month.specs.Month.{hot_water_wh, space_heat_wh, zero_divisor}

-- 1 to 7
pub record CheckedSheet (s : Sheet) : Type 0 where
  pub header : HeaderFits s
  pub reading-count : length s.water_readings ≡ 6
  pub unit_count_lem : length s.units ≡ s.unit_count
  pub units : Each (UnitFits s) s.units

-- 1 to 12
pub record AcceptedSheet (s : Sheet) : Type 0 where
  pub checked-sheet : CheckedSheet s
  pub water-fits : hot_water_wh s ≤ s.shared_meter  -- 8
  pub divisors : zero_divisor s ≡ false  -- 9
  pub some_read : 3 ≤ s.model → 0 < length (read_units s)  -- 10
  pub meters_fit : all_metered s ≡ true → metered_sum s ≤ space_heat_wh s  -- 11
  pub pool-fits : has_pool s ≡ true → sum (unread_weights s) ≤ 10000 * total_area s  -- 12

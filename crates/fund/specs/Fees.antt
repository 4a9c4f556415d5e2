-- The fees of a month (2026-07; articles 18 and 19).
use Rattle.std.specs.Prelude.{Bool, ◌||◌, ℕ, ◌+◌, ◌*◌, ◌/◌, leb}
use Rattle.sheet.specs.Layout.{UnitRow, Sheet}
use Rattle.month.specs.Weights.{those, sum_of, has_no_device}

-- Units settled without readings pay: models 1 and 2, status 1 and 4.
unfoldable pub pays : Sheet → UnitRow → Bool
pays s u = leb s.model 2 || has_no_device u

-- a unit's fee in cents: p × rate / 10,000, half up. The rate is in thousandths of a cent per m², p in tenths of a m².
abbrev pub efficiency_fee : (rate : ℕ) → UnitRow → ℕ
efficiency_fee rate u = (u.heated_area * rate + 5000) / 10000

-- the month's: each unit's rounded, then added
unfoldable pub month_fees : (rate : ℕ) → Sheet → ℕ
month_fees rate s = sum_of (efficiency_fee rate) (those (pays s) s.units)

-- What a unit adds to the fees, paying or not.
use Rattle.std.specs.Prelude.{ℕ, if◌then◌else◌}
use Rattle.sheet.specs.Layout.{UnitRow, Sheet}
use Rattle.fund.specs.Fees.{pays, efficiency_fee}

abbrev pub unit_fee : (rate : ℕ) → Sheet → UnitRow → ℕ
unit_fee rate s u = if pays s u then efficiency_fee rate u else 0

-- Amounts of Wh (document 01, "Dividing"): a zero, an upper end, and an addition that answers `over`, nothing, past it, without an amount.
use Rattle.std.specs.Prelude.{ℕ, ◌+◌, leb, Option, Some, None, if◌then◌else◌}
use Rattle.sheet.specs.declared.watt_hours.Wh.{Wh}

abbrev pub highest_wh : ℕ
highest_wh = 4000000000

-- the number of Wh that an amount is
abbrev pub wh_in : Wh → ℕ
wh_in a = a.0

abbrev pub amount_of : ℕ → Option Wh
amount_of x = if leb x highest_wh then Some (record { 0 = x }) else None

abbrev pub plus_wh : ℕ → ℕ → Option Wh
plus_wh a b = amount_of (a + b)

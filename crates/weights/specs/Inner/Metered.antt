-- C where step 2's exception holds, else 0.
use Rattle.std.specs.Prelude.{ℕ, if◌then◌else◌}
use Rattle.sheet.specs.Layout.{Sheet}
use Rattle.month.specs.Weights.{all_metered, metered_sum}

abbrev pub metered_heat : Sheet → ℕ
metered_heat s = if all_metered s then metered_sum s else 0

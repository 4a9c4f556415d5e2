-- What the statement's numbers are near to (document 01, end of "Steps of a month"): for energy j, 0 to 3, of unit u.
use Rattle.std.specs.Prelude.{ℕ, ◌+◌, ◌*◌, eqb, get_or, if◌then◌else◌}
use Rattle.sheet.specs.declared.rule_set.RuleSet.{RuleSet}
use Rattle.sheet.specs.Layout.{Sheet}
use Rattle.month.specs.Fraction.{Fraction, ◌over◌}
use Rattle.month.specs.Steps.{whole_wh, unrounded, energies}
use Rattle.month.specs.Month.{bill_cents}

-- the unrounded portion: the same steps with fractions
unfoldable pub energy_portion : RuleSet → Sheet → ℕ → ℕ → Fraction
energy_portion rules s u j = get_or (energies unrounded rules s) (4 * u + j) (0 over 1)

-- the bill's part: bill × settled energy / M, 0 when M is 0
unfoldable pub bill_part : RuleSet → Sheet → ℕ → ℕ → Fraction
bill_part rules s u j = if eqb s.shared_meter 0 then 0 over 1 else (bill_cents s * get_or (energies whole_wh rules s) (4 * u + j) 0) over s.shared_meter

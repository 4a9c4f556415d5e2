-- Connection power and fees (2026-05; article 3): the fixed part, a list of its own beside the statement.
use Rattle.std.specs.Prelude.{List, [], ◌∷◌, ◌++◌, map, ℕ, zero, suc, eqb, length, get_or, drop, if◌then◌else◌}
use Rattle.sheet.specs.declared.rule_set.RuleSet.{RuleSet}
use Rattle.sheet.specs.Layout.{Sheet}
use Rattle.month.specs.Steps.{shares_under}
use Rattle.charges.specs.declared.amounts.Amounts.{Amounts}

-- Three amounts in cents: power, buyer's fee, supplier's fee, in this order.
abbrev pub amounts : (power buyer supplier : ℕ) → Amounts
amounts power buyer supplier = record { power = power; buyer = buyer; supplier = supplier }

abbrev pub in_order : Amounts → List ℕ
in_order a = a.power ∷ a.buyer ∷ a.supplier ∷ []

-- They are divided by q under model 1S, a 1 in the call, or by p under 2S, a 2.
unfoldable pub charge_weights : ℕ → Sheet → List ℕ
charge_weights model s = if eqb model 1 then map (λ u. u.heat_load) s.units else map (λ u. u.heated_area) s.units

-- A column for each amount, divided by the weights ("Dividing", document 01), ties by the rules (2026-06).
unfoldable pub columns : RuleSet → Amounts → List ℕ → List (List ℕ)
columns rules a ws = map (λ amount. shares_under rules amount ws) (in_order a)

-- columns of n numbers, unit by unit
unfoldable pub by_unit : ℕ → List (List ℕ) → List ℕ
by_unit zero cs = []
by_unit (suc n) cs = map (λ c. get_or c 0 0) cs ++ by_unit n (map (drop 1) cs)

-- The list of 3n numbers.
unfoldable pub fixed_charges : RuleSet → ℕ → Amounts → Sheet → List ℕ
fixed_charges rules model a s = by_unit (length s.units) (columns rules a (charge_weights model s))

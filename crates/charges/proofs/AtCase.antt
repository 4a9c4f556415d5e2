-- The laws at a computed case: their premise can be met, and they speak of these numbers. Assumes nothing.
use mathlib.Core.Path.{refl}
use mathlib.Core.List.{[], ◌∷◌}
use lib.ListN.{replicate}
use Rattle.apportion.specs.Shares.{shares_by}
use Rattle.sheet.specs.Tests.{any}
use Rattle.sheet.specs.Refusals.{first_refusal}
use Rattle.sheet.specs.RuleSets.{newest}
use Rattle.sheet.specs.Layout.{in_bytes, unit_row, rows, sheet_of}
use Rattle.sheet.specs.Check.{header_tests, row_tests, field_rules, row_rules, sheet_rules}
use Rattle.sheet.specs.Cases.Samples.{unit_bytes, joined, sheet_bytes, simple}
use Rattle.charges.specs.Charges.{amounts, charge_weights, columns, by_unit, fixed_charges}
use Rattle.charges.specs.Answer.{over_limit, no_load, call_rules, charge_answer, charges_after}
use Rattle.charges.specs.Laws.{ChargeLaws}
use Rattle.charges.specs.Cases.Charges.{three}
use Rattle.charges.proofs.Laws.{accepted-laws}

-- 1S, by q 1,000, 2,000, 7,000
pub at-three : ChargeLaws newest 1 (amounts 1000 204 33) (sheet_of (three 1)) (100 ∷ 20 ∷ 3 ∷ 200 ∷ 41 ∷ 7 ∷ 700 ∷ 143 ∷ 23 ∷ [])
unfolding simple three unit_bytes joined sheet_bytes in_bytes
    shares_by any first_refusal unit_row rows sheet_of header_tests row_tests field_rules row_rules sheet_rules
    charge_weights columns by_unit fixed_charges over_limit no_load call_rules charge_answer charges_after
at-three = accepted-laws newest (three 1) 1 (amounts 1000 204 33) (replicate 9 7) refl

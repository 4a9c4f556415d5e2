-- The laws of the fixed charges: what holds of every call that is accepted, by all rules (`accepted-laws`, proofs/Laws.antt).
use Rattle.std.specs.Prelude.{◌≡◌, List, ℕ, ◌+◌, ◌*◌, ◌<◌, length, get_or, Ok}
use Rattle.apportion.specs.Shares.{sum}
use Rattle.sheet.specs.Tests.{Each}
use Rattle.sheet.specs.declared.rule_set.RuleSet.{RuleSet}
use Rattle.sheet.specs.Layout.{Sheet, sheet_of}
use Rattle.month.specs.Laws.{sum_to}
use Rattle.charges.specs.declared.amounts.Amounts.{Amounts}
use Rattle.charges.specs.Charges.{in_order, charge_weights, fixed_charges}
use Rattle.charges.specs.Answer.{charge_answer, charges_after}

-- number j of unit u: 0 power, 1 buyer's fee, 2 supplier's fee
abbrev pub charge_at : List ℕ → (u j : ℕ) → ℕ
charge_at numbers u j = get_or numbers (3 * u + j) 0

-- x is less than one from the exact part total × w / whole: whole numbers over `whole`, which is above 0, are compared
pub record LessThanOneFrom (x total w whole : ℕ) : Type 0 where
  pub above0 : 0 < whole
  pub not_above_lem : x * whole < total * w + whole
  pub not-below : total * w < x * whole + whole

pub record ChargeLaws (rules : RuleSet) (model : ℕ) (a : Amounts) (s : Sheet) (numbers : List ℕ) : Type 0 where
  pub are_charges : numbers ≡ fixed_charges rules model a s
  pub count : length numbers ≡ 3 * s.unit_count
  pub fit_32_bits : Each (λ x. x < 4294967296) numbers
  -- each column adds to its amount
  pub columns_add : (j : ℕ) → j < 3 → sum_to s.unit_count (λ u. charge_at numbers u j) ≡ get_or (in_order a) j 0
  -- each number is less than one cent from its exact part
  pub cents_near : (u j : ℕ) → u < s.unit_count → j < 3
      → LessThanOneFrom (charge_at numbers u j) (get_or (in_order a) j 0) (get_or (charge_weights model s) u 0) (sum (charge_weights model s))
  -- a unit without weight pays nothing
  pub none_for_none : (u j : ℕ) → u < s.unit_count → j < 3 → get_or (charge_weights model s) u 0 ≡ 0 → charge_at numbers u j ≡ 0

abbrev pub AcceptedLaws : Type 0
AcceptedLaws =
    (rules : RuleSet) (bytes : List ℕ) (model : ℕ) (a : Amounts) (list : List ℕ)
    → charge_answer bytes model a list ≡ Ok tt
    → ChargeLaws rules model a (sheet_of bytes) (charges_after rules bytes model a list)

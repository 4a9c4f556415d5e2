-- The answer of the call, and the list afterwards (2026-05).
use Rattle.std.specs.Prelude.{Bool, not, ◌&&◌, ◌||◌, List, [], ◌∷◌, ◌++◌, map, ℕ, ◌*◌, ltb, eqb, length}
use Rattle.sheet.specs.Tests.{any}
use Rattle.sheet.specs.declared.refusal.Refusal.TheVariants.{HeaderField, ZeroDivisor, BufferLength}
use Rattle.sheet.specs.Refusals.{Outcome, Rule, ◌⇒◌, first_refusal, afterwards}
use Rattle.sheet.specs.declared.rule_set.RuleSet.{RuleSet}
use Rattle.sheet.specs.Layout.{Sheet, sheet_of}
use Rattle.sheet.specs.Check.{sheet_rules}
use Rattle.month.specs.Weights.{sum_of}
use Rattle.charges.specs.declared.amounts.Amounts.{Amounts}
use Rattle.charges.specs.Charges.{in_order, fixed_charges}

-- 4: an amount over its limit
unfoldable pub over_limit : Amounts → Bool
over_limit a = any (map (λ amount. ltb 100000000 amount) (in_order a))

-- 4: a model other than 1S and 2S
abbrev pub other_model : ℕ → Bool
other_model model = not (eqb model 1 || eqb model 2)

-- 9: 1S with all q zero, whatever the amounts
unfoldable pub no_load : ℕ → Sheet → Bool
no_load model s = eqb model 1 && eqb (sum_of (λ u. u.heat_load) s.units) 0

-- after the sheet's own 1 to 7, in this order, for a list of `room` numbers; place 0 is no header field's
unfoldable pub call_rules : ℕ → Amounts → Sheet → (room : ℕ) → List Rule
call_rules model a s room =
    (over_limit a ⇒ HeaderField 0)
    ∷ (other_model model ⇒ HeaderField 0)
    ∷ (no_load model s ⇒ ZeroDivisor)
    ∷ (not (eqb room (3 * s.unit_count)) ⇒ BufferLength)  -- 13
    ∷ []

unfoldable pub charge_answer : (bytes : List ℕ) (model : ℕ) → Amounts → (list : List ℕ) → Outcome
charge_answer bytes model a list = first_refusal (sheet_rules 32 bytes ++ call_rules model a (sheet_of bytes) (length list))

-- the list afterwards; refused, it keeps its contents
unfoldable pub charges_after : RuleSet → (bytes : List ℕ) (model : ℕ) → Amounts → (list : List ℕ) → List ℕ
charges_after rules bytes model a list = afterwards (charge_answer bytes model a list) list (fixed_charges rules model a (sheet_of bytes))

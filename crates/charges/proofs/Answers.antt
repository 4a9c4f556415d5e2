-- The answer for any bytes: 1 to 7, then 4, 9, 13; each way through the code. Assumes nothing.
use mathlib.Core.Path.{◌≡◌, refl, sym, ap, ◌∙◌}
use mathlib.Core.Bool.{true, false}
use mathlib.Core.List.{List}
use Prim.Native.Nat.{ℕ, ◌*◌, ◌<◌}
use native.Mathlib.Omega.{arith}
use borrow.Author.Tests.{ltb-false, eqb-true, eqb-false, eq-eqb, ne_eqb, not-false}
use lib.ListN.{length}
use Rattle.apportion.specs.Shares.{sum}
use Rattle.sheet.specs.declared.refusal.Refusal.{Refusal}
use Rattle.sheet.specs.declared.refusal.Refusal.TheVariants.{HeaderField, ZeroDivisor, BufferLength}
use Rattle.sheet.specs.Refusals.{Outcome, first_refusal, afterwards}
use Rattle.std.specs.Prelude.{Ok, Err}
use Rattle.sheet.specs.declared.rule_set.RuleSet.{RuleSet}
use Rattle.sheet.specs.Layout.{Sheet, sheet_of}
use Rattle.sheet.specs.Check.{sheet_rules, checked}
use Rattle.sheet.proofs.Passed.{none-holds, none_of}
use Rattle.sheet.proofs.Rules.{first-refused, first-accepted}
use Rattle.month.specs.Inner.Accepted.{CheckedSheet}
use Rattle.charges.specs.declared.amounts.Amounts.{Amounts}
use Rattle.charges.specs.Charges.{charge_weights, fixed_charges}
use Rattle.charges.specs.Answer.{over_limit, other_model, no_load, call_rules, charge_answer, charges_after}
use Rattle.charges.specs.Inner.Columns.{Within}
use Rattle.charges.proofs.Weights.{load-test}

-- ---- 4, 9 and 13 of a sheet that passes 1 to 7
module _ (model : ℕ) (a : Amounts) (s : Sheet) (room : ℕ) where
  abbrev answer : Outcome
  answer = first_refusal (call_rules model a s room)

  pub amount_over : over_limit a ≡ true → Err (HeaderField 0) ≡ answer
  unfolding first_refusal call_rules
  amount_over e = rw e

  module _ (fits : over_limit a ≡ false) where
    pub model_unknown : other_model model ≡ true → Err (HeaderField 0) ≡ answer
    unfolding first_refusal call_rules
    model_unknown e = rw (fits, e)

    module _ (known : other_model model ≡ false) (c : CheckedSheet s) where
      pub zero-sum : sum (charge_weights model s) ≡ 0 → Err ZeroDivisor ≡ answer
      unfolding first_refusal call_rules
      zero-sum z = rw (fits, known, load-test model s c ∙ eq-eqb (sum (charge_weights model s)) 0 z)

      module _ (some : sum (charge_weights model s) ≡ 0 → ⊥) where
        loaded : no_load model s ≡ false
        loaded = load-test model s c ∙ ne_eqb (sum (charge_weights model s)) 0 some

        pub wrong_list : (room ≡ 3 * s.unit_count → ⊥) → Err BufferLength ≡ answer
        unfolding first_refusal call_rules
        wrong_list h = rw (fits, known, loaded, ne_eqb room (3 * s.unit_count) h)

        pub right-list : room ≡ 3 * s.unit_count → (Ok tt) ≡ answer
        unfolding first_refusal call_rules
        right-list h = rw (fits, known, loaded, eq-eqb room (3 * s.unit_count) h)

-- ---- what a call has that none of them refuses
pub record Callable (model : ℕ) (a : Amounts) (s : Sheet) (room : ℕ) : Type 0 where
  pub within : Within a
  pub loaded : 0 < sum (charge_weights model s)
  pub right-room : room ≡ 3 * s.unit_count

pub within_limit : (a : Amounts) → over_limit a ≡ false → Within a
unfolding over_limit
within_limit a e =
    let h = none_of _ e in
    record { power = ltb-false 100000000 a.power h.0; buyer = ltb-false 100000000 a.buyer h.1.0; supplier = ltb-false 100000000 a.supplier h.1.1.0 }

pub callable : (model : ℕ) (a : Amounts) (s : Sheet) (room : ℕ) → CheckedSheet s → (o : Outcome) → o ≡ first_refusal (call_rules model a s room) → o ≡ Ok tt → Callable model a s room
unfolding call_rules
callable model a s room c o is ok =
    let h = none-holds (call_rules model a s room) (sym is ∙ ok) in
    let some = eqb-false (sum (charge_weights model s)) 0 (sym (load-test model s c) ∙ h.1.1.0) in
    record { within = within_limit a h.0; loaded = omega arith; right-room = eqb-true room (3 * s.unit_count) (not-false _ h.1.1.1.0) }

-- ---- any bytes
module _ (rules : RuleSet) (bytes : List ℕ) (model : ℕ) (a : Amounts) (list : List ℕ) where
  abbrev Is : Outcome → List ℕ → Type 0
  Is o out = (o ≡ charge_answer bytes model a list) × (out ≡ charges_after rules bytes model a list)

  pub refused-sheet : (o : Outcome) (r : Refusal) → o ≡ Err r → checked 32 bytes ≡ Err r → Is o list
  unfolding charge_answer charges_after checked
  refused-sheet o r is e = rw (is, first-refused (sheet_rules 32 bytes) (call_rules model a (sheet_of bytes) (length list)) e) (refl, refl)

  -- by the bytes of its view
  pub passed-sheet : checked 32 bytes ≡ Ok tt → (shown : List ℕ) → shown ≡ bytes → (o : Outcome) (out : List ℕ) → o ≡ first_refusal (call_rules model a (sheet_of shown) (length list))
      → out ≡ afterwards o list (fixed_charges rules model a (sheet_of shown)) → Is o out
  unfolding charge_answer charges_after checked
  passed-sheet ok shown same o out is e =
      rw (← same, first-accepted (sheet_rules 32 shown) (call_rules model a (sheet_of shown) (length list)) (ap (checked 32) same ∙ ok), ← is) (refl, e)

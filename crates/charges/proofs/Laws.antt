-- The laws of every accepted call. Assumes nothing.
use mathlib.Core.Path.{◌≡◌, refl, sym, ap, ◌∙◌}
use mathlib.Core.List.{List, [], ◌∷◌}
use Prim.Native.Nat.{ℕ, zero, suc, ◌*◌, ◌≤◌, ◌<◌}
use native.Mathlib.Omega.{arith}
use lib.ListN.{length, get_or}
use Rattle.apportion.specs.Fair.{Fair}
use Rattle.sheet.specs.declared.rule_set.RuleSet.{RuleSet}
use Rattle.sheet.specs.Layout.{Sheet, sheet_of}
use Rattle.sheet.specs.Check.{sheet_rules, checked}
use Rattle.sheet.proofs.Passed.{none-holds, holds-none, none_of-both}
use Rattle.sheet.proofs.Fits.{fits}
use Rattle.month.specs.Steps.{shares_under}
use Rattle.month.specs.Inner.Accepted.{CheckedSheet}
use Rattle.month.proofs.Lists.{sum_to_cong, sum_to-list}
use Rattle.month.proofs.Divisions.{under-fair}
use Rattle.month.proofs.Accepted.{fits-checked}
use Rattle.charges.specs.declared.amounts.Amounts.{Amounts}
use Rattle.charges.specs.Charges.{in_order, charge_weights, columns, by_unit, fixed_charges}
use Rattle.charges.specs.Answer.{call_rules, charge_answer, charges_after}
use Rattle.charges.specs.Laws.{charge_at, ChargeLaws, AcceptedLaws}
use Rattle.charges.proofs.ByUnit.{by_unit-length, by_unit-at, by_unit-below}
use Rattle.charges.proofs.Weights.{weights-count}
use Rattle.charges.proofs.Answers.{Callable, callable}

module _ (rules : RuleSet) (model : ℕ) (a : Amounts) (s : Sheet) (c : CheckedSheet s) (room : ℕ) (call : Callable model a s room) where
  abbrev ws : List ℕ
  ws = charge_weights model s

  abbrev part : ℕ → List ℕ
  part amount = shares_under rules amount ws

  abbrev numbers : List ℕ
  numbers = by_unit (length s.units) (part a.power ∷ part a.buyer ∷ part a.supplier ∷ [])

  charges_are : fixed_charges rules model a s ≡ numbers
  unfolding fixed_charges columns
  charges_are = refl

  fair : (amount : ℕ) → Fair amount ws (part amount)
  fair amount = under-fair rules amount ws (λ e. absurd (omega (arith, call.loaded)))

  below : (amount : ℕ) → amount ≤ 100000000 → (i : ℕ) → get_or (part amount) i 0 < 4294967296
  below amount h i = omega (arith, (fair amount).within-total i)

  -- column j
  column : (j : ℕ) → j < 3 → get_or (part a.power ∷ part a.buyer ∷ part a.supplier ∷ []) j [] ≡ part (get_or (in_order a) j 0)
  column zero h = refl
  column (suc zero) h = refl
  column (suc (suc zero)) h = refl
  column (suc (suc (suc j))) h = absurd (omega arith)

  charge_is : (u j : ℕ) → u < s.unit_count → j < 3 → charge_at numbers u j ≡ get_or (part (get_or (in_order a) j 0)) u 0
  charge_is u j h l =
      by_unit-at (length s.units) u j (part a.power) (part a.buyer) (part a.supplier) (omega (arith, c.unit_count_lem)) l
      ∙ ap (λ (xs : List ℕ). get_or xs u 0) (column j l)

  part_length : (amount : ℕ) → length (part amount) ≡ s.unit_count
  part_length amount = (fair amount).as_many ∙ weights-count model s ∙ c.unit_count_lem

  charge_laws : ChargeLaws rules model a s numbers
  charge_laws = record {
    are_charges = sym charges_are;
    count = by_unit-length (length s.units) (part a.power) (part a.buyer) (part a.supplier) ∙ ap (λ (n : ℕ). 3 * n) c.unit_count_lem;
    fit_32_bits = by_unit-below 4294967296 (length s.units) (part a.power) (part a.buyer) (part a.supplier) (below a.power call.within.power) (below a.buyer call.within.buyer) (below a.supplier call.within.supplier);
    columns_add = λ j l.
        let amount = get_or (in_order a) j 0 in
        sum_to_cong s.unit_count (λ u. charge_at numbers u j) (λ u. get_or (part amount) u 0) (λ u h. charge_is u j h l)
        ∙ sum_to-list s.unit_count (part amount) (part_length amount)
        ∙ (fair amount).adds_up;
    cents_near = λ u j h l.
        let amount = get_or (in_order a) j 0 in
        record {
          above0 = call.loaded;
          not_above_lem = rw (charge_is u j h l) ((fair amount).not_above_lem call.loaded u);
          not-below = rw (charge_is u j h l) ((fair amount).not-below call.loaded u);
        };
    none_for_none = λ u j h l e. charge_is u j h l ∙ (fair (get_or (in_order a) j 0)).none_for_none u e;
  }

-- THE LAWS OF EVERY ACCEPTED CALL
pub accepted-laws : AcceptedLaws
unfolding charge_answer charges_after checked
accepted-laws rules bytes model a list e =
    let s = sheet_of bytes in
    let room = length list in
    let both = none_of-both (sheet_rules 32 bytes) (call_rules model a s room) (none-holds _ e) in
    let c = fits-checked (fits 32 bytes (holds-none (sheet_rules 32 bytes) both.0)) in
    let call = callable model a s room c _ refl (holds-none (call_rules model a s room) both.1) in
    rw (e, charges_are rules model a s c room call) (charge_laws rules model a s c room call)

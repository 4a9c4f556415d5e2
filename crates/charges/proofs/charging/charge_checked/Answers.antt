-- 4, 9 and 13 first; the list is written only then.
use mathlib.Core.Path.{◌≡◌, sym, ap, ◌∙◌}
use mathlib.Core.Bool.{false}
use mathlib.Core.List.{List}
use Prim.Native.Nat.{ℕ, ◌≤◌}
use native.Mathlib.Omega.{arith}
use lib.ListN.{length}
use Rattle.std.specs.Prelude.{Err}
use Rattle.std.specs.List as std
use Rattle.std.proofs.Common.{rules}
use Rattle.apportion.specs.Shares.{sum}
use Rattle.sheet.specs.declared.refusal.Refusal.TheVariants.{HeaderField}
use Rattle.sheet.specs.RuleSets.{newest}
use Rattle.sheet.specs.Layout.{sheet_of}
use Rattle.sheet.specs.Inner.Fits.{Fits}
use Rattle.sheet.proofs.Rules.{handed_on}
use Rattle.month.specs.Inner.Accepted.{CheckedSheet}
use Rattle.month.proofs.Accepted.{fits-checked}
use Rattle.charges.specs.declared.models.ChargeModel.{ChargeModel}
use Rattle.charges.specs.Charges.{charge_weights}
use Rattle.charges.specs.Answer.{other_model}
use Rattle.charges.specs.Inner.Models.{model_code}
use Rattle.charges.proofs.ByUnit.{charges-by}
use Rattle.apportion.proofs.Sums.{sum_is}
use Rattle.charges.proofs.Weights.{known_model, weights-count, sum-small}
use Rattle.charges.proofs.Answers.{amount_over, model_unknown, zero-sum, wrong_list, right-list, within_limit}
use Rattle.charges.proofs.charging.charge_checked.Goals.{After-gather, After-sum-whole}
use Rattle.charges.proofs.charging.charge_checked.Goals as goal

pub returns-then-over_limit-clause-value : goal.returns-then-over_limit-clause-value
returns-then-over_limit-clause-value c = let a = c.args in amount_over a.model a.amounts (sheet_of a.sheet.bytes.now) _ (sym c.over_limit.ensures ∙ c.if-over_limit.true)

pub returns-in_err-model-clause-value : goal.returns-in_err-model-clause-value
returns-in_err-model-clause-value c =
    let a = c.args in
    let bad = c.in_err-model.ensures in
    handed_on c.from_residual.result (Err (HeaderField 0)) _ c.from_residual.ensures.1 (ap Err (sym bad.0))
    ∙ model_unknown a.model a.amounts (sheet_of a.sheet.bytes.now) _ (sym c.over_limit.ensures ∙ c.if-over_limit.false) bad.1

-- the weights of a sheet by a model that the call's number stands for
record Weighted (bytes : List ℕ) (model : ℕ) (weights : List ℕ) : Type 0 where
  checked-sheet : CheckedSheet (sheet_of bytes)
  known : other_model model ≡ false
  are : weights ≡ charge_weights model (sheet_of bytes)
  few : length weights ≤ 160
  units : length weights ≡ (sheet_of bytes).unit_count
  count : length weights ≡ length (sheet_of bytes).units
  small : std.sum weights ≤ 16000000

weighted : (bytes : List ℕ) → Fits 32 bytes → (m : ChargeModel) {model : ℕ} {weights : List ℕ} → model_code m ≡ model → weights ≡ charge_weights (model_code m) (sheet_of bytes) → Weighted bytes model weights
weighted bytes fits m {model} {weights} code gathered =
    let are = gathered ∙ ap (λ (k : ℕ). charge_weights k (sheet_of bytes)) code in
    let count = ap length are ∙ weights-count model (sheet_of bytes) in
    record {
      checked-sheet = fits-checked fits;
      known = known_model m code;
      are = are;
      few = omega (arith, count, fits.units_length, fits.header.unit_count);
      units = count ∙ fits.units_length;
      count = count;
      small = omega (arith, sum_is weights, ap sum are, sum-small model (sheet_of bytes) (fits-checked fits));
    }

given : (c : After-gather) → Weighted c.args.sheet.bytes.now c.args.model c.gather.new.weights
given c = weighted c.args.sheet.bytes.now c.args.sheet.fits c.in_ok-model.model c.in_ok-model.ensures c.gather.ensures

pub sum-whole-requires-clause-fits : goal.sum-whole-requires-clause-fits
sum-whole-requires-clause-fits c =
    let h : std.sum c.gather.new.weights ≤ 16000000 = (given (goal.at.sum-whole-requires-clause-fits c).After-gather).small in search rules

whole_is : (c : After-sum-whole) → c.sum-whole.result ≡ sum (charge_weights c.args.model (sheet_of c.args.sheet.bytes.now))
whole_is c =
    let whole : c.sum-whole.result ≡ std.sum c.gather.new.weights = search rules in
    whole ∙ sum_is c.gather.new.weights ∙ ap sum (weighted _ c.args.sheet.fits c.in_ok-model.model c.in_ok-model.ensures c.gather.ensures).are

pub returns-then-whole-eq0-clause-value : goal.returns-then-whole-eq0-clause-value
returns-then-whole-eq0-clause-value c =
    let a = c.args in
    let w = given (goal.at.returns-then-whole-eq0-clause-value c).After-gather in
    zero-sum a.model a.amounts (sheet_of a.sheet.bytes.now) _ (sym c.over_limit.ensures ∙ c.if-over_limit.false) w.known w.checked-sheet (omega (arith, whole_is (goal.at.returns-then-whole-eq0-clause-value c).After-sum-whole))

pub returns-then-charges-weights-clause-value : goal.returns-then-charges-weights-clause-value
returns-then-charges-weights-clause-value c =
    let a = c.args in
    let w = given (goal.at.returns-then-charges-weights-clause-value c).After-gather in
    wrong_list a.model a.amounts (sheet_of a.sheet.bytes.now) _ (sym c.over_limit.ensures ∙ c.if-over_limit.false) w.known w.checked-sheet
    (λ z. omega (arith, whole_is (goal.at.returns-then-charges-weights-clause-value c).After-sum-whole))
    (λ z. omega (arith, w.units))

pub write_charges-requires : goal.write_charges-requires
write_charges-requires c =
    let a = c.args in
    let w = given (goal.at.write_charges-requires c).After-gather in
    (record { few = w.few; positive = omega (arith, whole_is (goal.at.write_charges-requires c).After-sum-whole, ap sum w.are); small = omega (arith, w.small, sum_is c.gather.new.weights); room = omega arith }, within_limit a.amounts (sym c.over_limit.ensures ∙ c.if-over_limit.false))

pub returns : goal.returns
returns c =
    let a = c.args in
    let w = given (goal.at.returns c).After-gather in
    record {
      value =
          right-list a.model a.amounts (sheet_of a.sheet.bytes.now) _ (sym c.over_limit.ensures ∙ c.if-over_limit.false) w.known w.checked-sheet
          (λ z. omega (arith, whole_is (goal.at.returns c).After-sum-whole))
          (omega (arith, w.units));
      charges_after = c.write_charges.ensures ∙ charges-by newest a.model a.amounts (sheet_of a.sheet.bytes.now) _ _ w.count w.are;
    }

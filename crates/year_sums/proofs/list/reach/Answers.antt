use mathlib.Core.Path.{◌≡◌, sym, ap, ◌∙◌}
use mathlib.Core.List.{List}
use native.Mathlib.Omega.{arith}
use native.Mathlib.Decide.{dec_lt}
use Prim.Native.Nat.{ℕ, ◌≤◌, ◌-◌, ◌+◌}
use lib.ListN.{get_or, length, drop, length-drop, get_or-eq_default}
use lib.Bits.{bit_or}
use Rattle.std.specs.List.{fold}
use Rattle.std.proofs.Common.{rules, get_or-drop}
use Rattle.std.proofs.lemmas.List.{take_rest}
use Rattle.std.proofs.lemmas.Iterator.{YieldsList-from_slice}
use Rattle.std.proofs.lemmas.Iterator.Consumers.{fold_from_yields_List}
use Rattle.year_sums.specs.YearSums.{sums_length}
use Rattle.year_sums.proofs.Lists.{zero-at}
use Rattle.year_sums.proofs.Updating.{bits_gathered}
use Rattle.year_sums.proofs.list.reach.Goals as goal

pub returns-in_default : goal.returns-in_default
returns-in_default c = record { least = omega arith; most = omega arith; rest = rw c.in_default.is (λ k h. zero-at sums_length k) }

-- what no bit of stands behind the front
none_behind : (old : List ℕ) (front : ℕ) (behind : List ℕ) → behind ≡ drop front old → fold (λ (b x : ℕ). bit_or b x) 0 behind ≡ 0 → (k : ℕ) → front ≤ k → get_or old k 0 ≡ 0
none_behind old front behind f e k h = elim (dec_lt k (length old)) [
  | yes l ↦
      let same : front + (k - front) ≡ k = omega arith in
      let at = ap (λ (xs : List ℕ). get_or xs (k - front) 0) f ∙ get_or-drop front old (k - front) 0 in
      omega (arith, rw same at at, bits_gathered (λ x. x) 0 behind (k - front) 0 (omega (arith, ap length f, length-drop front old)))
  | no l ↦ get_or-eq_default old 0 (omega arith)
]

pub returns-then-behind-eq0 : goal.returns-then-behind-eq0
returns-then-behind-eq0 c =
    let old = c.in-Some.old.now in let front = c.args.front in
    let all = fold_from_yields_List _ (λ (b x : ℕ). bit_or b x) 0 c.fold-behind.result c.fold-behind.ensures.ran (YieldsList-from_slice _ c.iter.ensures.rest) (λ a x b q k. search rules) in
    record { least = omega arith; most = omega arith; rest = rw c.in-Some.is (none_behind old front _ (take_rest old front) (sym all ∙ c.if-behind-eq0.true)) }

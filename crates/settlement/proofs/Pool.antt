-- Steps 3 and 4 of models 3 to 5: the weights of the units not read, behind them the metered pool's; then the pool over the read units. Assumes nothing.
use mathlib.Core.Path.{◌≡◌, refl, sym, ap, ◌∙◌}
use mathlib.Core.Logic.{inl, inr}
use mathlib.Core.Bool.{false, not}
use mathlib.Core.List.{List, [], ◌∷◌, ◌++◌}
use Prim.Native.Nat.{ℕ, ◌+◌, ◌*◌, ◌-◌, ◌≤◌, ◌<◌}
use native.Mathlib.Omega.{arith}
use native.Mathlib.Numerals.{add-one}
use borrow.Author.Tests.{le-leb, ne_eqb}
use lib.ListN.{length, get_or, take, set, length-map}
use lib.Seq.{take-suc-set, length-take-le, get_or-take}
use Rattle.sheet.specs.declared.rule_set.RuleSet.{RuleSet}
use Rattle.sheet.specs.Layout.{UnitRow, Sheet}
use Rattle.month.specs.Weights.{those, is_read, read_units, unread_units, all_metered, has_pool, unread_weight, unread_weights, pool_weight, read_weight, read_weights}
use Rattle.month.specs.Steps.{whole_wh, pool_shares, read_shares, heat}
use Rattle.month.proofs.Lists.{decided}
use Rattle.month.proofs.Accepted.{read-positive}
use Rattle.month.proofs.Divisions.{pool}
use Rattle.month.proofs.DivisionBounds.{pool_le}
use Rattle.weights.specs.Inner.By.{weights_by}
use Rattle.weights.specs.Inner.Months.{sheet_of_month}
use Rattle.month.specs.Inner.Accepted.{AcceptedSheet}
use Rattle.weights.specs.declared.accepted.Month.{Month}
use Rattle.weights.proofs.Ready.{month_accepted}
use Rattle.weights.specs.declared.totals.Totals.{Totals}
use Rattle.weights.specs.declared.gather.By.TheVariants.{Unread, Read}
use Rattle.settlement.specs.Inner.Division.{Divides, Shared}
use Rattle.settlement.proofs.Order.{order, order_same}

read_or_not : (us : List UnitRow) → length (those (λ u. not (is_read u)) us) + length (those is_read us) ≡ length us
read_or_not [] = refl
read_or_not (u ∷ us) = elim (decided (is_read u)) [ inl e ↦ rw e (omega (arith, read_or_not us)) | inr e ↦ rw e (omega (arith, read_or_not us)) ]

-- k weights of units not read in a list w, and room for the pool's
pub record PoolWeights (s : Sheet) (t : Totals) (w : List ℕ) (k : ℕ) : Type 0 where
  pub few : k < 160
  pub count : k ≡ length (unread_units s)
  pub weights : take (k + 1) (set w k (10000 * t.area - t.unread)) ≡ unread_weights s ++ pool_weight s ∷ []

module _ (month : Month) (m : 2 < (sheet_of_month month).model) where
  abbrev s : Sheet
  s = sheet_of_month month

  abbrev rules : RuleSet
  rules = month.basis.rules

  accepted : AcceptedSheet s
  accepted = month_accepted month

  pub pool-weights : (w : List ℕ) {k : ℕ} → length w ≡ 160 → k ≤ s.unit_count → take k w ≡ weights_by rules Unread s → PoolWeights s month.basis.totals w k
  unfolding weights_by unread_weights pool_weight
  pool-weights w {k} l h g =
      let count : k ≡ length (unread_units s) = sym (length-take-le k w (omega (arith, accepted.checked-sheet.header.unit_count))) ∙ ap length g ∙ length-map (unread_units s) (unread_weight s) in
      let few : k < 160 = omega (arith, read_or_not s.units, accepted.some_read m, accepted.checked-sheet.unit_count_lem, accepted.checked-sheet.header.unit_count) in
      record { few = few; count = count; weights = rw (add-one, take-suc-set w k _ (omega arith), g) (ap (λ (t : Totals). unread_weights s ++ (10000 * t.area - t.unread) ∷ []) month.basis.summed) }

  module _ (e : all_metered s ≡ false) where
    -- the pool's weight is not below 0
    pub pool-fits : month.basis.totals.unread ≤ 10000 * month.basis.totals.area
    unfolding has_pool
    pool-fits = omega (arith, ap (λ (t : Totals). t.area) month.basis.summed, ap (λ (t : Totals). t.unread) month.basis.summed, accepted.pool-fits (rw (le-leb 3 s.model m, e)))

    -- the pool is the last of the shares
    module _ (unread : List ℕ) {k v : ℕ} (c : k ≡ length (unread_units s)) (p : take (k + 1) unread ≡ pool_shares whole_wh rules s) (f : v ≡ get_or unread k 0) where
      pool-is : v ≡ pool rules s
      pool-is = cc (get_or-take (k + 1) unread k 0 (omega arith))

      pub pool-divides : Divides v (weights_by rules Read s)
      unfolding weights_by read_weights
      pool-divides = (omega (arith, pool-is, pool_le rules s accepted), λ z. absurd (omega (arith, read-positive s accepted rules m)))

      -- STEPS 3 AND 4
      pub heat-is : (read : List ℕ) → Shared rules v (weights_by rules Read s) read → {xs : List ℕ} → xs ≡ order s.units unread read → xs ≡ heat whole_wh rules s
      unfolding heat read_shares weights_by read_weights
      heat-is read g o =
          let r = length (read_weights rules s) in
          let j : r ≡ length (read_units s) = length-map (read_units s) (read_weight rules s) in
          o
          ∙ order_same s.units unread read (take (k + 1) unread) (take r read)
          (λ i h. sym (get_or-take (k + 1) unread i 0 (omega arith)))
          (λ i h. sym (get_or-take r read i 0 (omega arith)))
          ∙ rw (e, ne_eqb s.model 1 (λ z. omega arith), ne_eqb s.model 2 (λ z. omega arith), p, g, pool-is)

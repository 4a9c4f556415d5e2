-- The energies unit by unit, then the cents.
use mathlib.Core.Path.{◌≡◌, sym, ap, subst, subst⁻¹, ◌∙◌}
use mathlib.Core.List.{List}
use Prim.Native.Nat.{ℕ, ◌*◌, ◌^◌, ◌<◌}
use native.Mathlib.Omega.{arith}
use lib.ListN.{length, get_or, take}
use Rattle.apportion.specs.Shares.{sum}
use Rattle.sheet.specs.Layout.{Sheet}
use Rattle.month.specs.Steps.{shares_under, whole_wh, unit_by_unit, heat, common_heat, water, common_water, energies_with}
use Rattle.month.specs.Month.{four_and_four, statement_with}
use Rattle.month.proofs.Sums.{with_sum}
use Rattle.sheet.specs.declared.rule_set.RuleSet.{RuleSet}
use Rattle.month.specs.Inner.Accepted.{AcceptedSheet}
use Rattle.weights.specs.declared.accepted.Month.{Month}
use Rattle.weights.specs.Inner.Months.{sheet_of_month}
use Rattle.weights.proofs.Ready.{month_accepted}
use Rattle.settlement.specs.declared.divide.Parts.{Parts}
use Rattle.settlement.specs.Inner.Heat.{Charged}
use Rattle.settlement.specs.Inner.Numbers.{Put, energy_place, energies_in, Billed, with_costs}
use Rattle.settlement.proofs.Writing.{energies-by_unit, energies-put}
use Rattle.settlement.proofs.settling.write_statement.Goals as goal

-- the energies are those of the month, with the common heat that was given
module _ (m : Month) {parts : Parts} {bill : ℕ} (p : Charged m parts bill) where
  abbrev s : Sheet
  s = sheet_of_month m

  abbrev n : ℕ
  n = s.unit_count

  abbrev rules : RuleSet
  rules = m.basis.rules

  accepted : AcceptedSheet s
  accepted = month_accepted m

  abbrev es : List ℕ
  es = energies_with whole_wh rules s parts.common

  count : n ≡ length s.units
  count = sym accepted.checked-sheet.unit_count_lem

  written : (before out : List ℕ) (a b c d : List ℕ) → length out ≡ 8 * n → Put energy_place (4 * n) (λ k. get_or (unit_by_unit whole_wh n a b c d) k 0) before out
      → take n a ≡ heat whole_wh rules s → take n b ≡ common_heat whole_wh rules s parts.common → take n c ≡ water whole_wh rules s → take n d ≡ common_water whole_wh rules s
      → energies_in n out ≡ es
  written before out a b c d room put ea eb ec ed = energies-put n out room before a b c d put ∙ energies-by_unit rules s parts.common a b c d count ea eb ec ed

  -- M + common ≤ 8,000,000,000
  fit : sum es < 2 ^ 62
  fit = omega (arith, with_sum rules s accepted parts.common, p.common-fits, accepted.checked-sheet.header.shared_meter)

  billed : (out : List ℕ) → length out ≡ 8 * n → energies_in n out ≡ es → Billed n bill out
  billed out room e = record {
    few = accepted.checked-sheet.header.unit_count;
    room = room;
    bill-fits = p.bill-fits;
    energies_fit = rw e fit;
    divisible = rw e p.divisible;
  }

  -- and the statement has them beside their cents
  costed : (out : List ℕ) → energies_in n out ≡ es → with_costs rules n bill out ≡ statement_with rules s parts.common bill
  costed out e =
      ap (λ (l : List ℕ). four_and_four n l (shares_under rules bill l)) e
      ∙ ap (λ (m : ℕ). four_and_four m es (shares_under rules bill es)) count

-- the statement with its energies, of n units as the code counts them
module _ (m : Month) {parts : Parts} {bill : ℕ} (p : Charged m parts bill) (k : ℕ) (e : k ≡ (sheet_of_month m).unit_count) (before out a b c d : List ℕ) (room : length out ≡ 8 * (sheet_of_month m).unit_count)
    (put : Put energy_place (4 * k) (λ j. get_or (unit_by_unit whole_wh k a b c d) j 0) before out) where
  energies_are : take (sheet_of_month m).unit_count a ≡ heat whole_wh m.basis.rules (sheet_of_month m) → take (sheet_of_month m).unit_count b ≡ common_heat whole_wh m.basis.rules (sheet_of_month m) parts.common
      → take (sheet_of_month m).unit_count c ≡ water whole_wh m.basis.rules (sheet_of_month m) → take (sheet_of_month m).unit_count d ≡ common_water whole_wh m.basis.rules (sheet_of_month m)
      → energies_in (sheet_of_month m).unit_count out ≡ energies_with whole_wh m.basis.rules (sheet_of_month m) parts.common
  energies_are = written m p before out a b c d room (subst (λ (n : ℕ). Put energy_place (4 * n) (λ j. get_or (unit_by_unit whole_wh n a b c d) j 0) before out) e put)

pub write_costs-requires : goal.write_costs-requires
write_costs-requires c =
    let m = c.args.month.now in
    let p = c.requires in
    let h = c.heat_shares.ensures in
    let w = c.water_shares.ensures in
    let put = c.put_energies in
    let room : length put.new.statement ≡ 8 * (sheet_of_month m).unit_count = omega (arith, put.auto, p.1) in
    subst⁻¹ (λ (k : ℕ). Billed k c.args.bill put.new.statement) c.unit_count-n.ensures.0
    (billed m p.0 _ room (energies_are m p.0 _ c.unit_count-n.ensures.0 _ _ _ _ _ _ room put.ensures h.units_after h.common_after w.units_after w.common_after))

pub returns : goal.returns
returns c =
    let m = c.args.month.now in
    let p = c.requires in
    let h = c.heat_shares.ensures in
    let w = c.water_shares.ensures in
    let put = c.put_energies in
    let room : length put.new.statement ≡ 8 * (sheet_of_month m).unit_count = omega (arith, put.auto, p.1) in
    c.write_costs.ensures
    ∙ ap (λ (k : ℕ). with_costs m.basis.rules k c.args.bill put.new.statement) c.unit_count-n.ensures.0
    ∙ costed m p.0 _ (energies_are m p.0 _ c.unit_count-n.ensures.0 _ _ _ _ _ _ room put.ensures h.units_after h.common_after w.units_after w.common_after)

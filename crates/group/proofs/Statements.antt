-- The statements of a group are those of its buildings one after the other, and building i as code meets it. Assumes nothing.
use mathlib.Core.Path.{◌≡◌, refl, sym, ap, ◌∙◌}
use mathlib.Core.List.{List, [], ◌∷◌, ◌++◌, map, zip_with, append_assoc}
use Prim.Native.Nat.{ℕ, zero, suc, ◌+◌, ◌*◌, ◌≤◌, ◌<◌}
use native.Mathlib.Omega.{arith}
use native.Mathlib.Nat.{zero-add}
use lib.ListN.{length, get_or, drop, length-map, length-drop}
use lib.Seq.{take-append-le, drop-append-le}
use Rattle.apportion.specs.Shares.{sum}
use Rattle.sheet.specs.Tests.{Each}
use Rattle.sheet.specs.declared.rule_set.RuleSet.{RuleSet}
use Rattle.sheet.specs.Layout.{Sheet}
use Rattle.month.specs.Steps.{shares_under, whole_wh, energies_with}
use Rattle.month.specs.Month.{four_and_four}
use Rattle.month.specs.Laws.{◌by◌, Divisible}
use Rattle.month.specs.Inner.Accepted.{AcceptedSheet}
use Rattle.month.proofs.Divisions.{under-fair}
use Rattle.month.proofs.Sums.{with_length}
use Rattle.group.specs.Group.{Group, joined, common_heats, building_energies, group_energies, adjusted_readings, bill_parts, group_costs, group_units, group_statement}
use Rattle.group.specs.Inner.Accepted.{AcceptedGroup}
use Rattle.group.specs.Inner.Figures.{statements_of}
use Rattle.apportion.proofs.Zips.{zip_at}
use Rattle.group.proofs.Lists.{Beside, none, one, as_many, at}
use Rattle.group.proofs.Bounds.{bill_le}
use Rattle.group.proofs.Readings.{building-fours, building-sums, heats_beside}
use Rattle.group.proofs.Bills.{DivisibleBy, parts_fair, building-divisible}

-- ---- rows of eight, one part after the other
rows_append : (n m : ℕ) (es fs cs ds : List ℕ) → length es ≡ 4 * n → length cs ≡ 4 * n → four_and_four (n + m) (es ++ fs) (cs ++ ds) ≡ four_and_four n es cs ++ four_and_four m fs ds
unfolding four_and_four
rows_append zero m [] fs [] ds p q = rw zero-add
rows_append zero m [] fs (c ∷ cs) ds p q = absurd (omega arith)
rows_append zero m (e ∷ es) fs cs ds p q = absurd (omega arith)
rows_append (suc n) m es fs cs ds p q =
    let more : suc n + m ≡ suc (n + m) = omega arith in
    let next = rows_append n m (drop 4 es) fs (drop 4 cs) ds (omega (arith, length-drop 4 es)) (omega (arith, length-drop 4 cs)) in
    let a : 4 ≤ length es = omega arith in
    let b : 4 ≤ length cs = omega arith in
    rw (more, take-append-le 4 es fs a, drop-append-le 4 es fs a, take-append-le 4 cs ds b, drop-append-le 4 cs ds b, next, append_assoc, append_assoc)

abbrev energies_of : RuleSet → List Sheet → List ℕ → List (List ℕ)
energies_of rules ss heats = zip_with (energies_with whole_wh rules) ss heats

module _ (rules : RuleSet) where
  by-building : (ss : List Sheet) (heats : List ℕ) {parts : List ℕ} → Each AcceptedSheet ss → length heats ≡ length ss → Beside DivisibleBy parts (energies_of rules ss heats)
      → four_and_four (sum (map (λ s. s.unit_count) ss)) (joined (energies_of rules ss heats)) (joined (zip_with (shares_under rules) parts (energies_of rules ss heats))) ≡ joined (statements_of rules ss heats parts)
  unfolding zip_with joined four_and_four
  by-building [] heats a l none = refl
  by-building (s ∷ ss) [] a l ds = absurd (omega arith)
  by-building (s ∷ ss) (heat ∷ heats) a l (one {x = part} {xs = parts} d ds) =
      let es = energies_with whole_wh rules s heat in
      let ess = energies_of rules ss heats in
      let cs = shares_under rules part es in
      let n : s.unit_count ≡ length s.units = sym a.0.checked-sheet.unit_count_lem in
      let le : length es ≡ 4 * length s.units = with_length whole_wh rules s heat in
      ap (λ (k : ℕ). four_and_four (k + sum (map (λ s. s.unit_count) ss)) (es ++ joined ess) (cs ++ joined (zip_with (shares_under rules) parts ess))) n
      ∙ rows_append (length s.units) _ es _ cs _ le ((under-fair rules part es d).as_many ∙ le)
      ∙ ap (λ (rest : List ℕ). four_and_four (length s.units) es cs ++ rest) (by-building ss heats a.1 (omega arith) ds)

-- the energies of building i
abbrev pub energies_at : RuleSet → Group → ℕ → Sheet → List ℕ
energies_at rules g i d = energies_with whole_wh rules (get_or g.buildings i d) (get_or (common_heats whole_wh rules g) i 0)

module _ (rules : RuleSet) (g : Group) (a : AcceptedGroup rules g) where
  pub heats-length : length (common_heats whole_wh rules g) ≡ length g.buildings
  heats-length =
      as_many (heats_beside rules g a) ∙ as_many (building-sums rules g a) ∙ sym (as_many (building-fours rules g a)) ∙ length-map g.buildings (λ s. s.unit_count)

  -- THE STATEMENTS, BUILDING AFTER BUILDING
  pub statements_joined : group_statement rules g ≡ joined (statements_of rules g.buildings (common_heats whole_wh rules g) (bill_parts rules g))
  unfolding group_statement group_units group_energies group_costs building_energies
  statements_joined = by-building rules g.buildings (common_heats whole_wh rules g) a.checked-group.each heats-length (building-divisible rules g a)

  -- ---- building i
  pub part_le : (i : ℕ) → get_or (bill_parts rules g) i 0 ≤ 400000000
  part_le i = omega (arith, (parts_fair rules g a).within-total i, bill_le g a.checked-group)

  module _ (i : ℕ) (d : Sheet) (h : i < length g.buildings) where
    energies_at_lem : get_or (building_energies whole_wh rules g) i [] ≡ energies_at rules g i d
    unfolding building_energies
    energies_at_lem = zip_at (energies_with whole_wh rules) g.buildings (common_heats whole_wh rules g) i d 0 [] h (omega (arith, heats-length))

    pub sum-at : sum (energies_at rules g i d) ≡ get_or (adjusted_readings rules g) i 0
    sum-at = ap sum (sym energies_at_lem) ∙ at (building-sums rules g a) i 0 [] (omega (arith, heats-length, as_many (heats_beside rules g a)))

    pub divisible-at : Divisible (get_or (bill_parts rules g) i 0 by energies_at rules g i d)
    divisible-at e = (parts_fair rules g a).none_for_none i (sym sum-at ∙ e)

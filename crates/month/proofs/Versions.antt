-- What the limits of model 4 (2026-01) and the rule for ties (2026-06) move. Assumes nothing.
use mathlib.Core.Path.{◌≡◌, refl, sym, ap, ap₂, ◌∙◌}
use mathlib.Core.Logic.{inl, inr}
use mathlib.Core.List.{List, [], ◌∷◌, map}
use borrow.Author.Tests.{eq-eqb, eqb-true}
use lib.Dec.{eqb}
use lib.ListN.{length}
use Rattle.apportion.specs.declared.tie_rule.TieRule.TheVariants.{EarlierFirst}
use Rattle.apportion.specs.Shares.{shares}
use Rattle.apportion.proofs.Alike as alike
use Rattle.sheet.specs.Tests.{Each}
use Rattle.sheet.specs.declared.rule_set.RuleSet.TheVariants.{Archive1, Archive2, Archive3}
use Rattle.sheet.specs.Layout.{UnitRow, Sheet}
use Rattle.month.specs.Weights.{read_units, reading_sum, surface_weight, read_weight, read_weights}
use Rattle.month.specs.Steps.{Method, dividing_by, whole_wh, split_by, heat_parts, pool_shares, read_shares, heat, common_heat, water_parts, water, common_water, energies}
use Rattle.month.specs.Month.{bill_cents, costs, four_and_four, statement_of, month_of}
use Rattle.month.specs.Laws.{Division, divisions, DoesAsShares, SameMonth, AlikeButForRisers, WithoutTies, AlikeButForTies}
use Rattle.month.proofs.Lists.{decided}
use Rattle.month.proofs.Divisions.{no_other_divisions}

module _ (s : Sheet) (h : s.model ≡ 4 → reading_sum s ≡ 0) where
  same_weight : (u : UnitRow) → read_weight Archive1 s u ≡ read_weight Archive2 s u
  unfolding read_weight
  same_weight u = elim (decided (eqb s.model 4)) [
    | inl e ↦ rw (eq-eqb (reading_sum s) 0 (h (eqb-true s.model 4 e)))
    | inr e ↦ rw e
  ]

  same-weights : read_weights Archive1 s ≡ read_weights Archive2 s
  unfolding read_weights
  same-weights = λ i. map (λ u. same_weight u i) (read_units s)

  same_read : read_shares whole_wh Archive1 s ≡ read_shares whole_wh Archive2 s
  unfolding read_shares pool_shares heat_parts split_by
  same_read = rw same-weights

  same-energies : energies whole_wh Archive1 s ≡ energies whole_wh Archive2 s
  unfolding energies heat pool_shares heat_parts split_by common_heat water_parts water common_water
  same-energies = rw same_read

  same-statement : statement_of Archive1 s ≡ statement_of Archive2 s
  unfolding statement_of energies
  same-statement = rw same-energies

-- NO MONTH MOVES BUT THOSE OF MODEL 4 WITH B > 0
pub alike_but_for_risers : AlikeButForRisers
unfolding month_of
alike_but_for_risers s h = rw (same-statement s h)

-- ---- ties to the earlier item, by any rules
abbrev earlier : Method
earlier rules = shares EarlierFirst

each_of : (P : Division → Type 0) → ((d : Division) → P d) → (ds : List Division) → Each P ds
each_of P h [] = tt
each_of P h (d ∷ ds) = (h d, each_of P h ds)

alike-each : (ds : List Division) → Each WithoutTies ds → Each (DoesAsShares Archive3 earlier) ds
alike-each [] h = tt
alike-each (d ∷ ds) h = (sym (alike.alike_but_for_ties d.total d.weights h.0), alike-each ds h.1)

-- by that method versions 2 and 3 settle alike
same-by-earlier : (s : Sheet) → energies (dividing_by earlier) Archive2 s ≡ energies (dividing_by earlier) Archive3 s
unfolding energies heat pool_shares read_shares heat_parts split_by common_heat water_parts water common_water read_weights read_weight surface_weight
same-by-earlier s = refl

module _ (s : Sheet) (h : Each WithoutTies (divisions Archive3 s)) where
  by_2 : SameMonth Archive2 s earlier
  by_2 = no_other_divisions Archive2 s earlier (each_of (DoesAsShares Archive2 earlier) (λ d. refl) (divisions Archive2 s))

  by_3 : SameMonth Archive3 s earlier
  by_3 = no_other_divisions Archive3 s earlier (alike-each (divisions Archive3 s) h)

  tied-energies : energies whole_wh Archive2 s ≡ energies whole_wh Archive3 s
  tied-energies = sym by_2.same-energies ∙ same-by-earlier s ∙ by_3.same-energies

  tied-costs : shares EarlierFirst (bill_cents s) (energies whole_wh Archive2 s) ≡ costs Archive3 s
  tied-costs = ap (shares EarlierFirst (bill_cents s)) (sym by_2.same-energies ∙ same-by-earlier s) ∙ by_3.same-costs

  tied-statement : statement_of Archive2 s ≡ statement_of Archive3 s
  unfolding statement_of energies costs
  tied-statement = ap₂ (four_and_four (length s.units)) tied-energies tied-costs

-- NO MONTH MOVES BUT THOSE WITH A TIE THAT A LARGER LATER WEIGHT DECIDES
pub alike_but_for_ties : AlikeButForTies
unfolding month_of
alike_but_for_ties s h = rw (tied-statement s h)

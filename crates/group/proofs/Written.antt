-- Statements written one after the other: the parts of the list that are done, and one more. Assumes nothing.
use mathlib.Core.Path.{◌≡◌, refl, sym, ap, ap₂, subst, ◌∙◌}
use mathlib.Core.List.{List, [], ◌∷◌, ◌++◌, map, zip_with, append_assoc, append-nil}
use Prim.Native.Nat.{ℕ, ◌+◌, ◌*◌, ◌≤◌, ◌<◌}
use native.Mathlib.Numerals.{add-one}
use native.Mathlib.Omega.{arith}
use lib.ListN.{length, get_or, take, length-append, length-map}
use lib.Seq.{take-suc, take_all, take_at, length-take-le}
use Rattle.apportion.specs.Shares.{sum}
use Rattle.std.specs.Prelude.{Ok}
use Rattle.sheet.specs.Refusals.{first_refusal}
use Rattle.sheet.specs.declared.rule_set.RuleSet.{RuleSet}
use Rattle.sheet.specs.Layout.{Sheet, sheet_of}
use Rattle.month.specs.Steps.{whole_wh, energies_with}
use Rattle.month.specs.Month.{statement_with, settle_rules}
use Rattle.month.proofs.Nearness.{get_d_map_in}
use Rattle.month.proofs.Lists.{sum_append}
use Rattle.settlement.specs.Inner.Building.{GroupCharges}
use Rattle.group.specs.Group.{joined}
use Rattle.group.specs.Inner.Figures.{statements_of, Charges}
use Rattle.apportion.proofs.Zips.{zip_length, zip_at}
use Rattle.group.proofs.Lists.{up_to-part}

joined_append : (xss yss : List (List ℕ)) → joined (xss ++ yss) ≡ joined xss ++ joined yss
unfolding joined
joined_append [] yss = refl
joined_append (xs ∷ xss) yss = ap (λ (r : List ℕ). xs ++ r) (joined_append xss yss) ∙ sym (append_assoc xs (joined xss) (joined yss))

module _ (rules : RuleSet) (ss : List Sheet) (commons bills : List ℕ) where
  abbrev units : List ℕ
  units = map (λ (s : Sheet). s.unit_count) ss

  abbrev all : List (List ℕ)
  all = statements_of rules ss commons bills

  abbrev sheet : ℕ → Sheet
  sheet i = get_or ss i (sheet_of [])

  -- the statements of i buildings stand before place `at`
  pub record Done (out : List ℕ) (at i : ℕ) : Type 0 where
    pub room : length out ≡ 8 * sum units
    pub place : at ≡ 8 * sum (take i units)
    pub done : take at out ≡ joined (take i all)

  pub as_many_done : {out : List ℕ} {at i k : ℕ} → i ≡ k → Done out at i → Done out at k
  as_many_done {out} {at} e d = subst (λ (k : ℕ). Done out at k) e d

  unit-count : length units ≡ length ss
  unit-count = length-map ss (λ s. s.unit_count)

  unit-at : (i : ℕ) → i < length ss → get_or units i 0 ≡ (sheet i).unit_count
  unit-at i h = get_d_map_in (λ s. s.unit_count) ss i (sheet_of []) 0 h

  module _ {lent : List ℕ} (c : Charges rules ss commons bills lent) where
    pub none_done : Done lent 0 0
    unfolding joined
    none_done = record { room = c.out-room; place = refl; done = refl }

    inner : length (zip_with (statement_with rules) ss commons) ≡ length ss
    inner = zip_length (statement_with rules) ss commons (omega (arith, c.commons_many))

    statement-count : length all ≡ length ss
    statement-count = zip_length (λ f bill. f bill) (zip_with (statement_with rules) ss commons) bills (omega (arith, inner, c.bills_many)) ∙ inner

    statement-at : (i : ℕ) → i < length ss → get_or all i [] ≡ statement_with rules (sheet i) (get_or commons i 0) (get_or bills i 0)
    statement-at i h =
        zip_at (λ f bill. f bill) (zip_with (statement_with rules) ss commons) bills i (λ bill. []) 0 [] (omega (arith, inner)) (omega (arith, c.bills_many))
        ∙ ap (λ (f : ℕ → List ℕ). f (get_or bills i 0)) (zip_at (statement_with rules) ss commons i (sheet_of []) 0 (λ bill. []) h (omega (arith, c.commons_many)))

    -- building i's place lies inside the list
    pub inside : {out : List ℕ} {at i : ℕ} → Done out at i → i < length ss → at + 8 * (sheet i).unit_count ≤ length out
    inside {out} {at} {i} d h = omega (arith, d.place, d.room, up_to-part units i, unit-at i h)

    -- what `settle_with` asks of building i
    pub charged : {bytes out : List ℕ} {i bill : ℕ} → sheet i ≡ sheet_of bytes → first_refusal (settle_rules bytes) ≡ Ok tt → i < length ss → bill ≡ get_or bills i 0 → length out ≡ 8 * (sheet i).unit_count
        → GroupCharges rules bytes (get_or commons i 0) bill out
    charged {i = i} same passes h e l = record {
      accepted = passes;
      common-fits = c.commons_fit i;
      bill-fits = omega (arith, e, c.bills_fit i);
      divisible = λ z. e ∙ c.divisible i h (ap (λ (s : Sheet). sum (energies_with whole_wh rules s (get_or commons i 0))) same ∙ z);
      room = l ∙ ap (λ (s : Sheet). 8 * s.unit_count) same;
    }

    pub one-done : {out : List ℕ} {at i n : ℕ} (block rest : List ℕ) → Done out at i → i < length ss → n ≡ (sheet i).unit_count → length block ≡ 8 * n → length (take at out ++ (block ++ rest)) ≡ length out
        → block ≡ statement_with rules (sheet i) (get_or commons i 0) (get_or bills i 0) → Done (take at out ++ (block ++ rest)) (at + 8 * n) (i + 1)
    unfolding joined
    one-done {out} {at} {i} {n} block rest d h e l same is =
        let m = ap (λ (k : ℕ). take k units) (add-one i) ∙ take-suc units i 0 (omega (arith, unit-count)) in
        let front = length-take-le at out (omega (arith, inside d h)) in
        record {
          room = same ∙ d.room;
          place = omega (arith, d.place, ap sum m, sum_append (take i units) (get_or units i 0 ∷ []), unit-at i h);
          done =
              ap (take (at + 8 * n)) (sym (append_assoc (take at out) block rest))
              ∙ take_at (take at out ++ block) rest (at + 8 * n) (omega (arith, length-append (take at out) block))
              ∙ ap₂ ◌++◌ d.done (is ∙ sym (statement-at i h) ∙ sym (append-nil (get_or all i [])))
              ∙ sym (joined_append (take i all) (get_or all i [] ∷ []))
              ∙ ap joined (sym (ap (λ (k : ℕ). take k all) (add-one i) ∙ take-suc all i [] (omega (arith, statement-count))));
        }

    pub all_done : {out : List ℕ} {at i : ℕ} → Done out at i → length ss ≤ i → out ≡ joined all
    all_done {out} {at} {i} d e =
        let whole : take i units ≡ units = take_all i units (omega (arith, unit-count)) in
        sym (take_all at out (omega (arith, d.place, d.room, ap sum whole))) ∙ d.done ∙ ap joined (take_all i all (omega (arith, statement-count)))

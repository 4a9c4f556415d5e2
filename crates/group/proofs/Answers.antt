-- What an accepted answer says of the group (specs/Inner/Accepted.antt). Assumes nothing.
use mathlib.Core.Path.{◌≡◌, refl, ◌∙◌}
use mathlib.Core.Bool.{false}
use mathlib.Core.List.{List, [], ◌∷◌, map, zip_with}
use Prim.Native.Nat.{ℕ, zero, suc, ◌+◌, ◌≤◌, ◌<◌}
use native.Mathlib.Omega.{arith}
use borrow.Author.Tests.{ltb-false}
use lib.Dec.{ltb}
use lib.ListN.{length, get_or, length-map}
use Rattle.sheet.specs.Tests.{Each}
use Rattle.sheet.specs.Refusals.{Outcome, first_refusal}
use Rattle.std.specs.Prelude.{Ok, Err}
use Rattle.sheet.specs.declared.rule_set.RuleSet.{RuleSet}
use Rattle.sheet.specs.Layout.{Sheet, sheet_of}
use Rattle.sheet.proofs.Passed.{none-holds, AllFalse, none_of}
use Rattle.month.specs.Steps.{whole_wh, heat_parts}
use Rattle.month.specs.Inner.Accepted.{AcceptedSheet}
use Rattle.month.proofs.Lists.{each_parts}
use Rattle.month.proofs.Accepted.{accepted, and_false}
use Rattle.group.specs.declared.buildings.Building.{Building}
use Rattle.group.specs.Group.{Group, difference, is_negative, difference_shares, common_heat_below_zero, group_statement}
use Rattle.group.specs.Answer.{part_of, parts_of, group_of, bad_group, Stage, refusal_or, first_in, own_stages, group_stages, group_answer, group_after}
use Rattle.group.specs.Inner.Accepted.{CheckedGroup, AcceptedGroup}

-- ---- stages: accepted is what no rule of any stage meets
abbrev pub Passed : Stage → Type 0
Passed stage = first_refusal stage.rules ≡ Ok tt

pub all-passed : (stages : List Stage) → first_in stages ≡ Ok tt → Each Passed stages
unfolding first_in
all-passed [] e = tt
all-passed (stage ∷ stages) e = go (first_refusal stage.rules) refl e (all-passed stages)
  where
    go : (o : Outcome) → first_refusal stage.rules ≡ o → refusal_or stage.building o (first_in stages) ≡ Ok tt → (first_in stages ≡ Ok tt → Each Passed stages) → Passed stage × Each Passed stages
    go (Ok tt) p h next = (p, next h)
    go (Err r) p h next = absurd (let z : ◌≡◌ {A = ℕ} 0 1 = cc in omega arith)

pub each-accepted : (i : ℕ) (parts : List (List ℕ)) → Each Passed (own_stages i parts) → Each AcceptedSheet (map sheet_of parts)
unfolding own_stages
each-accepted i [] h = tt
each-accepted i (part ∷ parts) h = (accepted part h.0, each-accepted (i + 1) parts h.1)

-- ---- 21
none_above : (f : Sheet → ℕ) (ss : List Sheet) (xs : List ℕ) → AllFalse (zip_with (λ s x. ltb (f s) x) ss xs) → (i : ℕ) → i < length ss → get_or xs i 0 ≤ get_or (map f ss) i 0
unfolding zip_with
none_above f [] xs h i l = absurd (omega arith)
none_above f (s ∷ ss) [] h i l = omega arith
none_above f (s ∷ ss) (x ∷ xs) h zero l = ltb-false (f s) x h.0
none_above f (s ∷ ss) (x ∷ xs) h (suc i) l = none_above f ss xs h.1 i (omega arith)

-- ---- the whole
pub covers : (rules : RuleSet) (g : Group) → CheckedGroup g → common_heat_below_zero rules g ≡ false → AcceptedGroup rules g
unfolding common_heat_below_zero
covers rules g c e = record {
  checked-group = c;
  not-below = λ h. none_above (λ s. (heat_parts whole_wh rules s).common) g.buildings (difference_shares whole_wh rules g) (none_of _ (and_false (is_negative (difference g)) _ e h));
}

abbrev pub group_in : List ℕ → List Building → ℕ → Group
group_in buffer bs reading = group_of (parts_of buffer bs) reading

module _ (rules : RuleSet) (buffer : List ℕ) (bs : List Building) (reading : ℕ) (list : List ℕ) (e : group_answer rules buffer bs reading list ≡ Ok tt) where
  pub accepted-group : AcceptedGroup rules (group_in buffer bs reading)
  unfolding group_answer group_stages bad_group group_of
  accepted-group =
      let parts = parts_of buffer bs in
      let stages = all-passed (group_stages rules buffer bs reading list) e in
      let bad = none_of _ (none-holds _ stages.0).0 in
      let more = each_parts Passed (own_stages 0 parts) _ stages.1 in
      let last = none-holds _ more.1.0 in
      let n : length (map sheet_of parts) ≡ length bs = length-map parts sheet_of ∙ length-map bs (part_of buffer) in
      let checked : CheckedGroup (group_in buffer bs reading) = record {
        each = each-accepted 0 parts more.0;
        some = omega (arith, ltb-false (length bs) 1 bad.0);
        count = omega (arith, ltb-false 12 (length bs) bad.1.0);
        reading = ltb-false 4000000000 reading bad.1.1.0;
      } in
      covers rules (group_in buffer bs reading) checked last.1.1.0

  pub statements_written : group_after rules buffer bs reading list ≡ group_statement rules (group_in buffer bs reading)
  unfolding group_after
  statements_written = rw e

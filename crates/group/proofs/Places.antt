-- The place of every refusal of a group is below 160, its building's number below 12. Assumes nothing.
use mathlib.Core.Path.{◌≡◌}
use mathlib.Core.Bool.{true, false}
use mathlib.Core.List.{List, [], ◌∷◌}
use mathlib.Core.Logic.{inl, inr}
use Prim.Native.Nat.{ℕ, ◌+◌, ◌≤◌, ◌<◌}
use native.Mathlib.Omega.{arith}
use borrow.Author.Tests.{ltb-false}
use lib.ListN.{length, length-map}
use Rattle.sheet.specs.Tests.{Each}
use Rattle.sheet.specs.Refusals.{Outcome, first_refusal, place_of}
use Rattle.std.specs.Prelude.{Ok, Err, IfErr}
use Rattle.sheet.specs.declared.rule_set.RuleSet.{RuleSet}
use Rattle.sheet.specs.Inner.Places.{PlaceBelow}
use Rattle.sheet.proofs.Passed.{none_of}
use Rattle.sheet.proofs.Places.{each_first}
use Rattle.month.proofs.Lists.{decided, each_append}
use Rattle.month.proofs.Places.{settle-place}
use Rattle.group.specs.declared.buildings.Building.{Building}
use Rattle.group.specs.Answer.{GroupAnswer, part_of, parts_of, bad_group, Stage, refusal_or, first_in, own_stages, group_stages, group_answer}

abbrev pub Bounded : GroupAnswer → Type 0
Bounded a = IfErr a (λ e. (place_of e.refusal < 160) × (e.building < 12))

abbrev BoundedStage : Stage → Type 0
BoundedStage stage = PlaceBelow 160 (first_refusal stage.rules) × (stage.building < 12)

refusal_or_lem : (i : ℕ) (o : Outcome) (next : GroupAnswer) → PlaceBelow 160 o → i < 12 → Bounded next → Bounded (refusal_or i o next)
refusal_or_lem i (Ok tt) next h l k = k
refusal_or_lem i (Err r) next h l k = (h, l)

first_in_lem : (stages : List Stage) → Each BoundedStage stages → Bounded (first_in stages)
unfolding first_in
first_in_lem [] h = tt
first_in_lem (stage ∷ stages) h = refusal_or_lem stage.building (first_refusal stage.rules) (first_in stages) h.0.0 h.0.1 (first_in_lem stages h.1)

own : (i : ℕ) (parts : List (List ℕ)) → i + length parts ≤ 12 → Each BoundedStage (own_stages i parts)
unfolding own_stages
own i [] h = tt
own i (part ∷ parts) h = ((settle-place part, omega arith), own (i + 1) parts (omega arith))

module _ (rules : RuleSet) (buffer : List ℕ) (bs : List Building) (reading : ℕ) (list : List ℕ) where
  bad : bad_group buffer bs reading ≡ true → Bounded (group_answer rules buffer bs reading list)
  unfolding group_answer group_stages first_in first_refusal
  bad e = rw e (omega arith, omega arith)

  not-bad : bad_group buffer bs reading ≡ false → Bounded (group_answer rules buffer bs reading list)
  unfolding group_answer group_stages bad_group
  not-bad e =
      let parts = parts_of buffer bs in
      let few = ltb-false 12 (length bs) (none_of _ e).1.0 in
      first_in_lem (group_stages rules buffer bs reading list) (
        (each_first (λ r. place_of r < 160) _ (omega arith, tt), omega arith),
        each_append BoundedStage (own_stages 0 parts) _ (own 0 parts (omega (arith, length-map bs (part_of buffer)))) ((each_first (λ r. place_of r < 160) _ (omega arith, (omega arith, (omega arith, tt))), omega arith), tt),
      )

  pub answer_bounds : Bounded (group_answer rules buffer bs reading list)
  answer_bounds = elim (decided (bad_group buffer bs reading)) [ inl e ↦ bad e | inr e ↦ not-bad e ]

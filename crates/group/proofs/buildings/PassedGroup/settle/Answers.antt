-- The difference's shares; 21; then common heats and readings with their shares, and the statements by them.
use mathlib.Core.Path.{refl, sym, ◌∙◌}
use mir.Syntax.{w64}
use mir.Val.{SFits, of_z, to_z}
use native.Mathlib.Omega.{arith}
use Rattle.std.proofs.lemmas.Int.{ints}
use Rattle.std.proofs.Common.{rules}
use Rattle.sheet.specs.RuleSets.{newest}
use Rattle.group.specs.declared.buildings.PassedGroup.{PassedGroup}
use Rattle.group.specs.Inner.Parts.{group_in}
use Rattle.group.specs.Inner.Accepted.{CheckedGroup}
use Rattle.group.proofs.Lists.{same_z}
use Rattle.group.proofs.Passing.{checked-group}
use Rattle.group.proofs.Adjusting.{sum_le, Measured, measured, shares-asked, commons_many, goes_below-is, commons_movable, meters_movable, adjusted-group}
use Rattle.group.proofs.Outcomes.{goes_below, stays-above}
use Rattle.group.proofs.buildings.PassedGroup.settle.Goals.{After-size_of}
use Rattle.group.proofs.buildings.PassedGroup.settle.Goals as goal

checked : (p : PassedGroup) → CheckedGroup (group_in p.group)
checked p = checked-group _ _ p.passed p.group.reading p.group.good

pub difference-difference-requires : goal.difference-difference-requires
difference-difference-requires c = let k = checked c.args.self in (k.reading, sum_le k c.requires c.fields.ensures)

pub size_of-requires : goal.size_of-requires
size_of-requires c =
    let k = checked c.args.self in
    let fits : SFits w64 c.difference-difference.result = search rules in
    omega (arith, ints, same_z fits, c.difference-difference.ensures, k.reading, sum_le k c.requires c.fields.ensures)

measure : (c : After-size_of) → Measured (group_in c.args.self.group) (to_z w64 (of_z w64 c.difference-difference.result)) c.size_of.result
measure c =
    let fits : SFits w64 c.difference-difference.result = search rules in
    measured (checked c.args.self) c.requires c.fields.ensures (same_z fits) c.difference-difference.ensures c.size_of.ensures

pub share_difference-requires : goal.share_difference-requires
share_difference-requires c = shares-asked (checked c.args.self) c.requires (measure (goal.at.share_difference-requires c).After-size_of)

pub goes_below-requires : goal.goes_below-requires
goes_below-requires c = commons_many (checked c.args.self) c.requires (measure (goal.at.goes_below-requires c).After-size_of) c.share_difference.ensures

pub returns-then-goes_below-clause-value : goal.returns-then-goes_below-clause-value
returns-then-goes_below-clause-value c =
    let m = measure (goal.at.returns-then-goes_below-clause-value c).After-size_of in
    goes_below newest _ (sym (goes_below-is (checked c.args.self) c.requires m c.share_difference.ensures) ∙ sym c.goes_below.ensures ∙ c.if-goes_below.true)

pub adjust-requires : goal.adjust-requires
adjust-requires c =
    let k = checked c.args.self in
    let m = measure (goal.at.adjust-requires c).After-size_of in
    commons_movable k c.requires m c.share_difference.ensures (sym (goes_below-is k c.requires m c.share_difference.ensures) ∙ sym c.goes_below.ensures ∙ c.if-goes_below.false)

pub adjust-requires-2 : goal.adjust-requires-2
adjust-requires-2 c =
    let k = checked c.args.self in
    let m = measure (goal.at.adjust-requires-2 c).After-size_of in
    meters_movable k c.requires m c.share_difference.ensures (sym (goes_below-is k c.requires m c.share_difference.ensures) ∙ sym c.goes_below.ensures ∙ c.if-goes_below.false) c.fields.ensures

pub write-requires : goal.write-requires
write-requires c =
    let k = checked c.args.self in
    let m = measure (goal.at.write-requires c).After-size_of in
    let above = sym (goes_below-is k c.requires m c.share_difference.ensures) ∙ sym c.goes_below.ensures ∙ c.if-goes_below.false in
    adjusted-group k c.requires m c.share_difference.ensures above c.fields.ensures c.adjust-2.ensures c.adjust.ensures refl

pub returns : goal.returns
returns c =
    let m = measure (goal.at.returns c).After-size_of in
    let above = sym (goes_below-is (checked c.args.self) c.requires m c.share_difference.ensures) ∙ sym c.goes_below.ensures ∙ c.if-goes_below.false in
    record { value = stays-above newest _ above; statement_after = c.write.ensures }

use mathlib.Core.Path.{refl, sym}
use native.Mathlib.Omega.{arith}
use Rattle.sheet.specs.RuleSets.{newest}
use Rattle.sheet.proofs.Rules.{handed}
use Rattle.group.proofs.Surveys.{none-walked, one-refused, one-walked, all-walked}
use Rattle.group.proofs.buildings.Group.survey.Goals as goal

pub loop-i-init : goal.loop-i-init
loop-i-init c = none-walked newest _ _ _ _

pub returns-in_err-survey : goal.returns-in_err-survey
returns-in_err-survey c =
    let g = c.args.self in
    let e = c.in_err-survey.field-0.0 in
    let same = handed c.from_residual.result e c.from_residual.ensures.1 in
    let own = one-refused newest g.sheets.now g.buildings.now c.loop-i.i (omega arith) e (sym c.in_err-survey.ensures) c.loop-i.invariant in
    record { answer = rw same (sym own); group = rw same tt; areas = rw same tt; commons = rw same tt }

pub loop-i-preserved : goal.loop-i-preserved
loop-i-preserved c =
    let g = c.args.self in
    one-walked newest g.sheets.now g.buildings.now c.loop-i.i (omega arith) _ _ (omega arith) (omega arith) c.in_ok-survey.survey (sym c.in_ok-survey.ensures) c.loop-i.invariant

pub invariant_of-result : goal.invariant_of-result
invariant_of-result c =
    let g = c.args.self in
    let s = all-walked newest g.sheets.now g.buildings.now c.loop-i.areas c.loop-i.commons c.loop-i.i (omega arith) (omega arith) (omega arith) c.loop-i.invariant in
    record { passed = rw s.passed refl }

pub returns : goal.returns
returns c =
    let g = c.args.self in
    let s = all-walked newest g.sheets.now g.buildings.now c.loop-i.areas c.loop-i.commons c.loop-i.i (omega arith) (omega arith) (omega arith) c.loop-i.invariant in
    record { answer = sym s.passed; group = refl; areas = s.areas_are; commons = s.commons_are }

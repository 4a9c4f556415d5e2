-- Invariant: the buildings passed are surveyed, and those that are left give the answer.
use Rattle.sheet.specs.RuleSets.{newest}
use Rattle.group.proofs.Surveys.{Walked}
use Rattle.group.proofs.buildings.Group.survey.Given as goal

abbrev pub invariant-loop-i : goal.invariant-loop-i
invariant-loop-i l = Walked newest l.self.sheets.now l.self.buildings.now l.areas l.commons l.i

use Rattle.sheet.proofs.Views.{passed_fits}
use Rattle.group.proofs.Passing.{sheet_passed}
use Rattle.group.proofs.buildings.PassedGroup.sheet.Goals as goal

pub invariant_of-result : goal.invariant_of-result
invariant_of-result c = let g = c.args.self.group in record { fits = passed_fits _ (sheet_passed g.sheets.now g.buildings.now c.args.self.passed c.args.i c.requires c.part.ensures) }

-- 1 to 7, then the rest.
use mathlib.Core.Path.{refl, sym, ◌∙◌}
use Rattle.sheet.proofs.Rules.{handed_on}
use Rattle.archive.proofs.Answers.{refused-sheet}
use Rattle.archive.proofs.writer.write.Goals as goal

pub returns-in_err-sheet : goal.returns-in_err-sheet
returns-in_err-sheet c =
    let w = refused-sheet c.args.sheet.now c.args.out.now (sym c.in_err-sheet.ensures.answer) in
    record { value = handed_on c.from_residual.result _ _ c.from_residual.ensures.1 refl ∙ w.0; out_after = w.1 }

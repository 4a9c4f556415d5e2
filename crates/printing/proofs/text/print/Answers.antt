-- A sheet that 1 to 7 refuse is not settled.
use mathlib.Core.Path.{sym}
use Rattle.printing.proofs.Answers.{refused-sheet, printed-long, printed-at_front}
use Rattle.printing.proofs.text.print.Goals as goal

pub returns-in-Err-clause-value : goal.returns-in-Err-clause-value
returns-in-Err-clause-value c = printed-long c.args.sheet.now _ (sym (refused-sheet c.args.sheet.now c.in-Err.refusal (sym c.in-Err.ensures.answer))) c.print_outcome.ensures.value

pub returns-in-Err-clause-text_after : goal.returns-in-Err-clause-text_after
returns-in-Err-clause-text_after c = printed-at_front c.args.sheet.now _ (sym (refused-sheet c.args.sheet.now c.in-Err.refusal (sym c.in-Err.ensures.answer))) c.args.text.now c.print_outcome.ensures.text_after

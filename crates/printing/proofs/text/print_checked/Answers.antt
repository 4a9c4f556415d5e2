use Rattle.printing.proofs.Answers.{printed-long, printed-at_front}
use Rattle.printing.proofs.text.print_checked.Goals as goal

pub returns-clause-value : goal.returns-clause-value
returns-clause-value c = printed-long c.args.sheet.bytes.now _ c.settle.ensures c.print_outcome.ensures.value

pub returns-clause-text_after : goal.returns-clause-text_after
returns-clause-text_after c = printed-at_front c.args.sheet.bytes.now _ c.settle.ensures c.args.text.now c.print_outcome.ensures.text_after

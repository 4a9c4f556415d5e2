use mathlib.Core.Path.{◌∙◌}
use Rattle.sheet.specs.RuleSets.{newest}
use Rattle.sheet.proofs.Views.{accepted}
use Rattle.settlement.proofs.Answers.{by_month}
use Rattle.yearbook.proofs.Brought.{front_of, block-settled}
use Rattle.yearbook.proofs.bring.settle_block.Goals as goal

pub returns : goal.returns
returns c =
    let n = c.unit_count-end in
    let written = c.settle_checked.ensures in
    let zeros = c.requires.block in
    let by = by_month newest c.args.sheet.bytes.now (front_of n.result) (accepted _ c.requires.passed) in
    rw zeros (block-settled _ n.result n.ensures.1 n.ensures.0 _ ((rw zeros at written.value) ∙ by.0) _ ((rw zeros at written.statement_after) ∙ by.1))

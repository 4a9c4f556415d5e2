-- 14 for the head, then what is behind it by its rules.
use mathlib.Core.Path.{sym, ◌∙◌}
use Rattle.archive.proofs.Answers.{handed, to_end, wrong_head, refused-part, by_part, statement-length}
use Rattle.archive.proofs.reader.open.Goals as goal

pub returns-in_default-clause-answer : goal.returns-in_default-clause-answer
returns-in_default-clause-answer c = wrong_head _ (sym c.head_of.ensures.value ∙ c.in_default.is)

pub returns-in_err-sheet-clause-answer : goal.returns-in_err-sheet-clause-answer
returns-in_err-sheet-clause-answer c =
    handed c.from_residual.result c.from_residual.ensures.1
    ∙ refused-part c.args.bytes.now (sym c.head_of.ensures.value ∙ c.in-Some.is) (to_end 8 c.args.bytes.now) (sym c.in_err-sheet.ensures.answer)

pub check_statement-requires : goal.check_statement-requires
check_statement-requires c = let p = c.in_ok-sheet.ensures in statement-length _ (sym p.answer) p.sheet p.statement

pub returns-in_err-check_statement-clause-answer : goal.returns-in_err-check_statement-clause-answer
returns-in_err-check_statement-clause-answer c =
    let p = c.in_ok-sheet.ensures in
    handed c.from_residual-in_err-check_statement.result c.from_residual-in_err-check_statement.ensures.1
    ∙ c.in_err-check_statement.ensures
    ∙ by_part c.args.bytes.now (sym c.head_of.ensures.value ∙ c.in-Some.is) (to_end 8 c.args.bytes.now) (sym p.answer) p.sheet p.statement

pub returns-clause-answer : goal.returns-clause-answer
returns-clause-answer c =
    let p = c.in_ok-sheet.ensures in
    c.in_ok-check_statement.ensures
    ∙ by_part c.args.bytes.now (sym c.head_of.ensures.value ∙ c.in-Some.is) (to_end 8 c.args.bytes.now) (sym p.answer) p.sheet p.statement

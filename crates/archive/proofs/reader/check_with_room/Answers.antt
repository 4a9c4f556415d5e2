-- 8 to 12, then the statement.
use mathlib.Core.Path.{sym, ◌∙◌}
use Rattle.sheet.specs.Refusals.{first_refusal}
use Rattle.sheet.specs.Layout.{sheet_of}
use Rattle.sheet.proofs.Rules.{handed_on}
use Rattle.archive.proofs.Answers.{lent_room, unsettled, by-statement}
use Rattle.archive.proofs.reader.check_with_room.Goals as goal

pub returns-in_err-settle_checked : goal.returns-in_err-settle_checked
returns-in_err-settle_checked g c =
    let s = c.args.sheet in
    let o = c.settle_checked in
    let was = c.in_err-settle_checked.was in
    handed_on c.from_residual.result o.result _ c.from_residual.ensures.1 was
    ∙ was
    ∙ unsettled c.args.rules (sheet_of s.bytes.now) _ (lent_room g.row.N c.unit_count.ensures.0 c.requires.room.0) c.args.statement.now (sym o.ensures.value ∙ was)

pub returns-then-not-same_statement : goal.returns-then-not-same_statement
unfolding first_refusal
returns-then-not-same_statement g c =
    let s = c.args.sheet in
    let o = c.settle_checked in
    by-statement c.args.rules (sheet_of s.bytes.now) _ (lent_room g.row.N c.unit_count.ensures.0 c.requires.room.0) c.args.statement.now (sym o.ensures.value ∙ c.in_ok-settle_checked.was) o.ensures.statement_after c.same_statement.ensures c.if-not-same_statement.true

pub returns : goal.returns
unfolding first_refusal
returns g c =
    let s = c.args.sheet in
    let o = c.settle_checked in
    by-statement c.args.rules (sheet_of s.bytes.now) _ (lent_room g.row.N c.unit_count.ensures.0 c.requires.room.0) c.args.statement.now (sym o.ensures.value ∙ c.in_ok-settle_checked.was) o.ensures.statement_after c.same_statement.ensures c.if-not-same_statement.false

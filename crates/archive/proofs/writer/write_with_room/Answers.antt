-- 13 after 8 to 12; the list is written only then.
use mathlib.Core.Path.{sym, ◌∙◌}
use native.Mathlib.Omega.{arith}
use Rattle.sheet.proofs.Rules.{handed_on}
use Rattle.archive.proofs.Answers.{lent_room, refused-month, wrong_length, written}
use Rattle.archive.proofs.writer.write_with_room.Goals as goal

pub returns-in_err-settle_checked : goal.returns-in_err-settle_checked
returns-in_err-settle_checked g c =
    let s = c.args.sheet in
    let o = c.settle_checked in
    let was = c.in_err-settle_checked.was in
    let w = refused-month s.bytes.now c.args.out.now _ c.requires.passed (lent_room g.row.N c.unit_count.ensures.0 c.requires.room.0) (sym o.ensures.value ∙ was) in
    record { value = handed_on c.from_residual.result o.result _ c.from_residual.ensures.1 was ∙ was ∙ w.0; out_after = w.1 }

pub returns-then-out-sheet : goal.returns-then-out-sheet
returns-then-out-sheet g c =
    let s = c.args.sheet in
    let o = c.settle_checked in
    let room = lent_room g.row.N c.unit_count.ensures.0 c.requires.room.0 in
    let w = wrong_length s.bytes.now c.args.out.now _ c.requires.passed room (sym o.ensures.value ∙ c.in_ok-settle_checked.was) (λ e. c.if-out-sheet.true (omega (arith, e, o.auto, room))) in
    record { value = w.0; out_after = w.1 }

pub returns : goal.returns
returns g c =
    let s = c.args.sheet in
    let o = c.settle_checked in
    let p = c.put_record in
    let room = lent_room g.row.N c.unit_count.ensures.0 c.requires.room.0 in
    let w = written s.bytes.now c.args.out.now _ c.requires.passed room (sym o.ensures.value ∙ c.in_ok-settle_checked.was) (omega (arith, c.if-out-sheet.false, o.auto, room)) o.ensures.statement_after p.ensures in
    record { value = w.0; out_after = w.1 }

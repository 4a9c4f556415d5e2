use mathlib.Core.Path.{sym, ◌∙◌}
use Rattle.year_sums.proofs.Updating.{update-err, update-ok}
use Rattle.yearbook.specs.LentBook.{with_sheet}
use Rattle.yearbook.proofs.Answers.{bring_15, bring_unchecked, bring_refused, bring_16, bring_17, bring_19, bring_accepted}
use Rattle.yearbook.proofs.Blocks.{stored-length}
use Rattle.sheet.proofs.Rules.{handed}
use Rattle.yearbook.proofs.Handed.{same}
use Rattle.yearbook.proofs.Brought.{placed, state_is, off_is, old-full, settles_blocks, settles_write}
use Rattle.yearbook.proofs.bring.bring.Goals as goal

pub returns-in_err-before : goal.returns-in_err-before
returns-in_err-before c =
    let no = c.in_err-before.ensures in
    rw (handed _ _ c.from_residual.ensures.1, no.1) (bring_15 c.args.entry _ c.args.sheet.now no.0)

pub returns-in_err-sheet : goal.returns-in_err-sheet
returns-in_err-sheet c =
    rw (handed _ _ c.from_residual-in_err-sheet.ensures.1) (bring_unchecked c.args.entry _ c.args.sheet.now c.in_ok-before.ensures.0 _ (sym c.in_err-sheet.ensures.answer))

pub returns-in_err-settle_block : goal.returns-in_err-settle_block
returns-in_err-settle_block c =
    rw (handed _ _ c.from_residual-in_err-settle_block.ensures.1, same c.in_ok-sheet.ensures.sheet)
    (bring_refused c.args.entry _ _ c.in_ok-before.ensures.0 _ c.in_err-settle_block.ensures)

pub returns-then-other_building : goal.returns-then-other_building
returns-then-other_building c =
    let book = same c.in_ok-before.ensures.1 in
    rw (same c.in_ok-sheet.ensures.sheet, book)
    (bring_16 c.args.entry _ _ (rw book at c.in_ok-before.ensures.0) _ c.in_ok-settle_block.ensures.settles (sym c.other_building.ensures ∙ c.if-other_building.true))

pub returns-then-wrong_state : goal.returns-then-wrong_state
returns-then-wrong_state c =
    let at = placed _ c.header.ensures (rw c.unwrap-at.ensures at c.of.ensures) in
    let book = same c.in_ok-before.ensures.1 in
    rw (same c.in_ok-sheet.ensures.sheet, book)
    (bring_17 c.args.entry _ _ (rw book at c.in_ok-before.ensures.0) _ c.in_ok-settle_block.ensures.settles (sym c.other_building.ensures ∙ c.if-other_building.false)
    (state_is c.args.entry _ _ at c.stands.ensures c.wrong_state.ensures ∙ c.if-wrong_state.true))

pub update-requires : goal.update-requires
update-requires c =
    settles_blocks c.in_ok-settle_block.ensures c.unit_count.result c.unit_count.ensures.1 c.unit_count.ensures.0 _
    (rw c.old_block-old.ensures (old-full c.args.entry _ (rw c.block.ensures (stored-length _ c.in_ok-before.before.sound.size _ c.unwrap-at.result.below))))

pub returns-in_err-update : goal.returns-in_err-update
returns-in_err-update c =
    let at = placed _ c.header.ensures (rw c.unwrap-at.ensures at c.of.ensures) in
    let book = same c.in_ok-before.ensures.1 in
    let settled = c.in_ok-settle_block.ensures in
    let off = off_is c.args.entry _ _ at c.block.ensures c.old_block-old.ensures in
    let u = update-err (rw (off, settled.block-is) at c.in_err-update.ensures) in
    rw (handed _ _ c.from_residual-in_err-update.ensures.1, u.1, u.2, same c.in_ok-sheet.ensures.sheet, book)
    (bring_19 c.args.entry _ _ (rw book at c.in_ok-before.ensures.0) _ settled.settles (sym c.other_building.ensures ∙ c.if-other_building.false)
    (state_is c.args.entry _ _ at c.stands.ensures c.wrong_state.ensures ∙ c.if-wrong_state.false) u.0)

pub put_month-requires : goal.put_month-requires
put_month-requires c = rw (same c.in_ok-before.ensures.1) c.in_ok-before.before.sound.size

pub returns : goal.returns
unfolding with_sheet
returns c =
    let at = placed _ c.header.ensures (rw c.unwrap-at.ensures at c.of.ensures) in
    let book = same c.in_ok-before.ensures.1 in
    let settled = c.in_ok-settle_block.ensures in
    let off = off_is c.args.entry _ _ at c.block.ensures c.old_block-old.ensures in
    let u = update-ok (rw (off, settled.block-is) at c.in_ok-update.ensures) in
    rw (c.put_month.ensures, settles_write settled _ _ _ _ at c.header-meter.ensures c.bill_cents-bill.ensures.0, u.1, same c.in_ok-sheet.ensures.sheet, book)
    (bring_accepted c.args.entry _ _ (rw book at c.in_ok-before.ensures.0) _ settled.settles (sym c.other_building.ensures ∙ c.if-other_building.false)
    (state_is c.args.entry _ _ at c.stands.ensures c.wrong_state.ensures ∙ c.if-wrong_state.false) u.0)

use mathlib.Core.Path.{refl, sym, ◌∙◌}
use mathlib.Core.Logic.{inl, inr}
use Rattle.year_sums.proofs.Lists.{zero-at}
use Rattle.year_sums.proofs.Updating.{update-err, update-ok}
use Rattle.yearbook.specs.LentBook.{block_length}
use Rattle.yearbook.proofs.Answers.{withdraw_15, withdraw-low, withdraw-high, withdraw_17, withdraw_19, withdraw-accepted}
use Rattle.yearbook.proofs.Blocks.{stored-length}
use Rattle.sheet.proofs.Rules.{handed}
use Rattle.yearbook.proofs.Handed.{same}
use Rattle.yearbook.proofs.withdrawal.withdraw.Goals as goal

pub returns-in_err-before : goal.returns-in_err-before
returns-in_err-before c =
    let no = c.in_err-before.ensures in
    rw (handed _ _ c.from_residual.ensures.1, no.1) (withdraw_15 _ _ no.0)

pub returns-in_default : goal.returns-in_default
returns-in_default c = elim c.in_default.ensures [
  | inl h ↦ withdraw-low _ _ c.in_ok-before.ensures.0 h
  | inr h ↦ withdraw-high _ _ c.in_ok-before.ensures.0 h
]

pub returns-then-not-stands : goal.returns-then-not-stands
returns-then-not-stands c =
    let book = same c.in_ok-before.ensures.1 in
    rw book (withdraw_17 _ _ (rw book at c.in_ok-before.ensures.0) _ c.in-Some.ensures c.in-Some.at.below (sym c.stands.ensures ∙ c.if-not-stands.true))

pub update-requires : goal.update-requires
update-requires c = record {
  old-full = rw c.block.ensures (stored-length _ c.in_ok-before.before.sound.size _ c.in-Some.at.below);
  few = c.unit_count-n.ensures.1;
  full = refl;
  rest = λ k l. zero-at block_length k;
}

pub returns-in_err-update : goal.returns-in_err-update
returns-in_err-update c =
    let book = same c.in_ok-before.ensures.1 in
    let u = update-err (rw c.block.ensures at c.in_err-update.ensures) in
    rw (handed _ _ c.from_residual-in_err-update.ensures.1, u.1, u.2, book)
    (withdraw_19 _ _ (rw book at c.in_ok-before.ensures.0) _ c.in-Some.ensures c.in-Some.at.below (sym c.stands.ensures ∙ c.if-not-stands.false) u.0)

pub returns : goal.returns
returns c =
    let book = same c.in_ok-before.ensures.1 in
    let u = update-ok (rw c.block.ensures at c.in_ok-update.ensures) in
    rw (c.put_month.ensures, u.1, book)
    (withdraw-accepted _ _ (rw book at c.in_ok-before.ensures.0) _ c.in-Some.ensures c.in-Some.at.below (sym c.stands.ensures ∙ c.if-not-stands.false) u.0)

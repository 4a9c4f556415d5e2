-- What the calls know of a sheet that settles, and of one that doesn't. Assumes nothing.
use mathlib.Core.Path.{◌≡◌, refl, ap, ◌∙◌}
use mathlib.Core.List.{List}
use Prim.Native.Nat.{ℕ, ◌*◌}
use native.Mathlib.Omega.{arith}
use lib.ListN.{length}
use Rattle.sheet.specs.declared.refusal.Refusal.{Refusal}
use Rattle.sheet.specs.Refusals.{Outcome, first_refusal}
use Rattle.std.specs.Prelude.{Ok, Err}
use Rattle.sheet.specs.RuleSets.{newest}
use Rattle.sheet.specs.Layout.{sheet_of}
use Rattle.month.specs.Month.{Month, Settled, month_of, statement_of, settle_rules, settled_sheet, unless_refused}
use Rattle.month.specs.Inner.Accepted.{AcceptedSheet}
use Rattle.month.proofs.Accepted.{accepted}
use Rattle.month.proofs.Laws.{settled-month, settled-laws}
use Rattle.yearbook.specs.LentBook.{block_length, padded}
use Rattle.yearbook.proofs.Writes.{padded-length}

module _ (sheet : List ℕ) where
  pub sheet-refused : (r : Refusal) → settled_sheet newest sheet ≡ Settled.refused r → first_refusal (settle_rules sheet) ≡ Err r
  unfolding settled_sheet
  sheet-refused r = go (first_refusal (settle_rules sheet)) refl
    where
      go : (o : Outcome) → first_refusal (settle_rules sheet) ≡ o → unless_refused o (month_of newest (sheet_of sheet)) ≡ Settled.refused r → first_refusal (settle_rules sheet) ≡ Err r
      go (Ok tt) e h = absurd (let z : ◌≡◌ {A = ℕ} 0 1 = cc in omega arith)
      go (Err q) e h = cc

  module _ {m : Month} (settles : settled_sheet newest sheet ≡ Settled.settled m) where
    -- to the month of its own fields
    pub own-month : settled_sheet newest sheet ≡ Settled.settled (month_of newest (sheet_of sheet))
    own-month = settles ∙ ap Settled.settled (settled-month newest sheet m settles).1

    -- its month is 1 to 12, its units are at most 160, and so on
    pub sheet-accepted : AcceptedSheet (sheet_of sheet)
    sheet-accepted = accepted sheet (settled-month newest sheet m settles).0

    pub statement-length : length (statement_of newest (sheet_of sheet)) ≡ 8 * (sheet_of sheet).unit_count
    unfolding month_of
    statement-length = (settled-laws newest sheet (month_of newest (sheet_of sheet)) own-month).count

    pub block_length_lem : length (padded (sheet_of sheet).unit_count (statement_of newest (sheet_of sheet))) ≡ block_length
    block_length_lem = padded-length (sheet_of sheet).unit_count (statement_of newest (sheet_of sheet)) sheet-accepted.checked-sheet.header.unit_count statement-length

-- Post and replace as one call.
use Rattle.std.specs.Prelude.{◌≡◌, Bool, not, List, ℕ}
use Rattle.sheet.specs.RuleSets.{newest}
use Rattle.sheet.specs.Layout.{sheet_of}
use Rattle.month.specs.Month.{Settled, month_of, settled_sheet}
use Rattle.yearbook.specs.declared.bring.Entry.{Entry}
use Rattle.yearbook.specs.declared.bring.Entry.TheVariants.{Post, Replace}
use Rattle.yearbook.specs.Calls.{Call, post, replace}
use Rattle.yearbook.specs.LentBook.{zero_block, place_of_month, marked, block_in, block_of}

abbrev pub bring_call : Entry → List ℕ → Call
bring_call Post sheet = post sheet
bring_call Replace sheet = replace sheet

-- 17: the month stands (post) or doesn't (replace)
abbrev pub wrong_state : Entry → (stands : Bool) → Bool
wrong_state Post stands = stands
wrong_state Replace stands = not stands

abbrev pub wrong_month : Entry → List ℕ → List ℕ → Bool
wrong_month entry b sheet = wrong_state entry (marked b (place_of_month sheet))

-- what it takes off the sums: nothing (post) or the month's block (replace)
abbrev pub old_block : Entry → (block : List ℕ) → List ℕ
old_block Post block = zero_block
old_block Replace block = block

abbrev pub taken_off : Entry → List ℕ → List ℕ → List ℕ
taken_off entry b sheet = old_block entry (block_in b (place_of_month sheet))

-- a sheet that 1 to 12 don't refuse, and its block
pub record Settles (sheet block : List ℕ) : Type 0 where
  pub settles : settled_sheet newest sheet ≡ Settled.settled (month_of newest (sheet_of sheet))
  pub block-is : block ≡ block_of sheet

-- A month's block as it is stored, and what is taken off the sums. Assumes nothing.
use mathlib.Core.Path.{◌≡◌, ◌∙◌}
use mathlib.Core.Bool.{true, false}
use mathlib.Core.List.{List}
use Prim.Native.Nat.{ℕ, ◌+◌, ◌<◌}
use native.Mathlib.Omega.{arith}
use borrow.Author.Tests.{not-false}
use lib.ListN.{length, get_or, drop, length-drop, length-replicate}
use lib.Seq.{get_or-take, get_or-drop, length-take-le}
use Rattle.year_sums.proofs.Lists.{zero-at}
use Rattle.yearbook.specs.LentBook.{book_length, mark_at, block_at, block_length, block_in, place_of_month, marked, if_marked}
use Rattle.yearbook.specs.declared.bring.Entry.{Entry}
use Rattle.yearbook.specs.declared.bring.Entry.TheVariants.{Post, Replace}
use Rattle.yearbook.specs.Inner.Bring.{wrong_month, taken_off}

module _ (b : List ℕ) (size : length b ≡ book_length) (i : ℕ) (low : i < 12) where
  pub stored-length : length (block_in b i) ≡ block_length
  stored-length = length-take-le block_length (drop (block_at i) b) (rw length-drop (omega arith))

  pub stored_at : (k : ℕ) → k < block_length → get_or (block_in b i) k 0 ≡ get_or b (block_at i + k) 0
  stored_at k h = get_or-take block_length (drop (block_at i) b) k 0 h ∙ get_or-drop (block_at i) b k 0

-- What the month has in the sums: its block if it stands, else nothing. So it is with what a call takes off, past 17.
pub record Counted (b : List ℕ) (i : ℕ) (old : List ℕ) : Type 0 where
  pub full : length old ≡ block_length
  pub each : (k : ℕ) → k < block_length → get_or old k 0 ≡ if_marked (get_or b (mark_at i) 0) (get_or b (block_at i + k) 0)

pub stored_counted : (b : List ℕ) → length b ≡ book_length → (i : ℕ) → i < 12 → marked b i ≡ true → Counted b i (block_in b i)
stored_counted b size i low e = record { full = stored-length b size i low; each = λ k h. stored_at b size i low k h ∙ rw e }

pub taken_counted : (entry : Entry) (b sheet : List ℕ) → length b ≡ book_length → place_of_month sheet < 12 → wrong_month entry b sheet ≡ false
    → Counted b (place_of_month sheet) (taken_off entry b sheet)
taken_counted Post b sheet size low e = record { full = length-replicate {A = ℕ} block_length 0; each = λ k h. rw e (zero-at block_length k) }
taken_counted Replace b sheet size low e = stored_counted b size (place_of_month sheet) low (not-false _ e)

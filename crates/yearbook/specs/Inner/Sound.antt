-- What refusal 15 leaves of a lent list: plain facts for the laws and for the code. proofs/Sound.antt shows them.
use Rattle.std.specs.Prelude.{◌≡◌, List, ℕ, ◌≤◌, ◌<◌, length, get_or}
use Rattle.yearbook.specs.LentBook.{book_length, unit_count_in, mark_at}

pub record Sound (b : List ℕ) : Type 0 where
  pub size : length b ≡ book_length
  pub few-units : unit_count_in b ≤ 160
  pub marks : (i : ℕ) → i < 12 → get_or b (mark_at i) 0 ≤ 1

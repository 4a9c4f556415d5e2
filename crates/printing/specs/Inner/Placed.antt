-- A text put into a list at a place.
use Rattle.std.specs.Prelude.{◌≡◌, List, ◌++◌, ℕ, ◌+◌, ◌<◌, length, take, drop}
use Rattle.sheet.specs.Layout.{byte}

-- from `at` up to `end` stands the text; all else is as it was
pub record Placed (text before : List ℕ) (at : ℕ) (after : List ℕ) (end : ℕ) : Type 0 where
  pub ends : end ≡ at + length text
  pub front : take end after ≡ take at before ++ text
  pub rest : drop end after ≡ drop end before

-- each is a number of 8 bits
abbrev pub AreBytes : List ℕ → Type 0
AreBytes bytes = (i : ℕ) → byte bytes i < 256

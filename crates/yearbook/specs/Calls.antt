-- The calls of a year book after its opening, and their replies (document 01, "Year book").
use Rattle.std.specs.Prelude.{List, [], ◌∷◌, ℕ, Ok, Err}
use Rattle.sheet.specs.declared.refusal.Refusal.{Refusal}
use Rattle.sheet.specs.Refusals.{Outcome}

pub data Call : Type 0 where
  post : (sheet : List ℕ) → Call  -- a sheet's bytes as they are at the call
  replace : (sheet : List ℕ) → Call
  withdraw : (month : ℕ) → Call
  year : (place : ℕ) → Call  -- a unit's place, from 0

-- A refusal's number and place are `number_of` and `place_of` of crate sheet.
pub data Reply : Type 0 where
  accepted : Reply
  refused : Refusal → Reply
  totals : (k : ℕ) (sums : List ℕ) → Reply  -- the year call: k and the eight sums

-- a unit's eight numbers in a statement and its eight sums: 0 to 3 energies, 4 to 7 cents
abbrev pub eight : List ℕ
eight = 0 ∷ 1 ∷ 2 ∷ 3 ∷ 4 ∷ 5 ∷ 6 ∷ 7 ∷ []

-- the reply of a call that gives no sums
abbrev pub reply_of : Outcome → Reply
reply_of (Ok tt) = accepted
reply_of (Err r) = refused r

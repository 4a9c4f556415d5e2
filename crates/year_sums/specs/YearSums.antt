-- 2026-02 Year sums kept beside the book: "A lent list of 1,280 64-bit numbers, placed as in a block, holds the eight sums of each unit place".
-- What an update does to it, and refusal 19.
use Rattle.std.specs.Prelude.{Bool, not, ◌||◌, ℕ, ◌+◌, ◌-◌, ltb, eqb, length, replicate}
use mathlib.Core.List.{List, map, zip_with}
use Rattle.sheet.specs.Tests.{any}

abbrev pub sums_length : ℕ
sums_length = 1280

-- the largest number of 64 bits
abbrev pub most64 : ℕ
most64 = 18446744073709551615

-- as open leaves them; also a block of zeros
abbrev pub zero_sums : List ℕ
zero_sums = replicate sums_length 0

-- an update takes the whole old block off, then adds the new one, number by number
unfoldable pub updated : (sums old new : List ℕ) → List ℕ
updated sums old new = zip_with ◌+◌ (zip_with ◌-◌ sums old) new

-- 19: the list hasn't 1,280 numbers,
abbrev pub wrong_sums : List ℕ → Bool
wrong_sums sums = not (eqb (length sums) sums_length)

-- or an update would go below zero, an old number being above its sum, or past 64 bits
unfoldable pub bad_sums : (sums old new : List ℕ) → Bool
bad_sums sums old new = wrong_sums sums || any (zip_with ltb sums old) || any (map (ltb most64) (updated sums old new))

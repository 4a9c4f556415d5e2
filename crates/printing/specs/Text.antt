-- Text in ASCII: words, decimal numbers, lines.
use Rattle.std.specs.Prelude.{List, [], ◌∷◌, ◌++◌, ℕ, zero, suc, ◌+◌, ◌/◌, ◌%◌, ltb, if◌then◌else◌}
use Prim.Native.Char.{code}
use Prim.Native.String.{String, [] as end, ◌∷◌ as ◌then◌}

-- the characters' codes, which are the bytes of a text in ASCII
abbrev pub ascii : String → List ℕ
ascii end = []
ascii (c then s) = code c ∷ ascii s

-- `0` to `9`
abbrev pub digit : ℕ → ℕ
digit x = 48 + x

-- Decimal digits without leading zeros, where `most` of them suffice: a number below 10 is its digit, any other its tens and then its last digit.
unfoldable pub digits_up_to : (most x : ℕ) → List ℕ
digits_up_to zero x = []
digits_up_to (suc most) x = if ltb x 10 then digit x ∷ [] else digits_up_to most (x / 10) ++ (digit (x % 10) ∷ [])

-- of a number of 64 bits 20 digits suffice
unfoldable pub decimal : ℕ → List ℕ
decimal x = digits_up_to 20 x

-- words and numbers, a space before each, then a newline
abbrev pub further : List (List ℕ) → List ℕ
further [] = ascii "\n"
further (word ∷ words) = ascii " " ++ (word ++ further words)

-- A line: words and numbers separated by one space, and a newline at its end.
abbrev pub line : (first : List ℕ) (others : List (List ℕ)) → List ℕ
line first others = first ++ further others

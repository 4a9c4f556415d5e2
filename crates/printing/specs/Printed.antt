-- What `statement` prints of any bytes (document 01, "Printing"), and the same text in a lent list.
use Rattle.std.specs.Prelude.{List, [], ◌∷◌, ◌++◌, map, ℕ, ◌+◌, ◌*◌, leb, length, take, drop, if◌then◌else◌}
use Rattle.sheet.specs.declared.refusal.Refusal.{Refusal}
use Rattle.sheet.specs.Refusals.{number_of, place_of}
use Rattle.sheet.specs.RuleSets.{newest}
use Rattle.month.specs.Month.{Month, Settled, refused, settled, settled_sheet}
use Rattle.printing.specs.Text.{ascii, decimal, line}

-- first line: month, n, M, bill
unfoldable pub first_line : Month → List ℕ
first_line m =
    line (ascii "month") (
    decimal m.month
    ∷ ascii "units"
    ∷ decimal m.unit_count
    ∷ ascii "wh"
    ∷ decimal m.meter
    ∷ ascii "cents"
    ∷ decimal m.bill
    ∷ []
    )

-- then, a line a unit: id, four Wh, four cents
unfoldable pub unit_lines : (ids statement : List ℕ) → List ℕ
unit_lines [] statement = []
unit_lines (id ∷ ids) statement = line (decimal id) (map decimal (take 8 statement)) ++ unit_lines ids (drop 8 statement)

-- a refusal: one line, `refused`, number, place
unfoldable pub refusal_line : Refusal → List ℕ
refusal_line r = line (ascii "refused") (decimal (number_of r) ∷ decimal (place_of r) ∷ [])

-- the text of a refused or settled sheet
abbrev pub text_of : Settled → List ℕ
text_of (refused r) = refusal_line r
text_of (settled m) = first_line m ++ unit_lines m.ids m.numbers

-- the text of any bytes, settled by the newest rules
unfoldable pub printed : List ℕ → List ℕ
printed bytes = text_of (settled_sheet newest bytes)

-- No text is longer: a first line has at most 49 bytes, a unit's line at most 99, and a refusal's line is shorter than the longest first line.
abbrev pub longest : Settled → ℕ
longest (refused r) = 49
longest (settled m) = 49 + 99 * m.unit_count

-- A text at the front of a list that is at least as long; a shorter list keeps its contents.
unfoldable pub at_front : (text list : List ℕ) → List ℕ
at_front text list = if leb (length text) (length list) then text ++ drop (length text) list else list

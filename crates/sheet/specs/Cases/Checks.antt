-- Computed cases of the check: each of refusals 1 to 7 and 20, its place, and which of two faults decides, alone and in a record. One table, one theorem. The ranges stand in Ranges.
use Rattle.std.specs.Prelude.{◌≡◌, refl, List, [], ◌∷◌, ◌++◌, map, ℕ, ◌+◌, ◌*◌, take, Some, None, Ok, Err}
use Rattle.sheet.specs.Refusals.{Outcome, first_refusal}
use Rattle.sheet.specs.declared.refusal.Refusal.TheVariants.{TooShort, BadMagic, UnsupportedVersion, HeaderField, WrongLength, RowField, IdOrder, FieldConflict}
use Rattle.sheet.specs.Layout.{in_bytes, unit_row, rows, sheet_of}
use Rattle.sheet.specs.Check.{header_tests, row_tests, field_rules, row_rules, sheet_rules, checked}
use Rattle.sheet.specs.WattHours.{plus_wh}
use Rattle.sheet.specs.Cases.Samples.{zeros, put, unit_bytes, joined, sheet_bytes, case_a}

-- byte k of row i
abbrev in_row : (i k : ℕ) → ℕ
in_row i k = 48 + 32 * i + k

-- ---- the table
infix 15 ◌gives◌
record Case : Type 0 where
  bytes : List ℕ
  answer : Outcome

abbrev ◌gives◌ : List ℕ → Outcome → Case
bytes gives answer = record { bytes = bytes; answer = answer }

-- 1 to 3 and 5
abbrev whole : List Case
whole =
    (put (in_row 0 0) 0 case_a gives (Ok tt))  -- the first id may be 0
    -- 1
    ∷ ([] gives Err TooShort)
    ∷ (take 47 case_a gives Err TooShort)
    -- 2
    ∷ (put 0 0 case_a gives Err BadMagic)
    ∷ (put 3 1 case_a gives Err BadMagic)
    -- 3
    ∷ (put 4 2 case_a gives Err UnsupportedVersion)
    ∷ (put 5 1 case_a gives Err UnsupportedVersion)
    -- 5
    ∷ (take 48 case_a gives Err WrongLength)
    ∷ (take 143 case_a gives Err WrongLength)
    ∷ (case_a ++ zeros 1 gives Err WrongLength)
    ∷ (put 8 2 case_a gives Err WrongLength)
    -- two faults: the lower number
    ∷ (put 0 0 (take 47 case_a) gives Err TooShort)
    ∷ (put 0 0 (put 4 2 case_a) gives Err BadMagic)
    ∷ (put 4 2 (put 6 0 case_a) gives Err UnsupportedVersion)
    ∷ (put 6 0 (take 143 case_a) gives Err (HeaderField 6))
    ∷ (put (in_row 0 4) 5 (take 143 case_a) gives Err WrongLength)
    ∷ []

-- 4, 6, 20 and 7 of sheets that are long enough; the fields in Ranges
abbrev fields : List Case
fields =
    (case_a gives (Ok tt))
    -- 4: one fault; model 2 with v 30, source 2 with t 0: the later field
    ∷ (put 6 0 case_a gives Err (HeaderField 6))
    ∷ (put 7 2 case_a gives Err (HeaderField 11))
    ∷ (put 10 2 case_a gives Err (HeaderField 15))
    ∷ (put 47 255 case_a gives Err (HeaderField 44))
    -- two of them: the first, also where the other depends on it
    ∷ (put 6 13 (put 23 1 case_a) gives Err (HeaderField 6))
    ∷ (put 7 6 case_a gives Err (HeaderField 7))
    ∷ (put 12 51 (put 11 31 case_a) gives Err (HeaderField 11))
    ∷ (put 14 36 (put 44 1 case_a) gives Err (HeaderField 14))
    -- 4 before the rows
    ∷ (put 14 36 (put (in_row 0 5) 1 case_a) gives Err (HeaderField 14))
    -- 6 with its place
    ∷ (put (in_row 0 4) 5 case_a gives Err (RowField 0))
    ∷ (put (in_row 2 31) 1 case_a gives Err (RowField 2))
    -- 20 with its place: b of a unit that isn't read, a class without hot water, litres and persons of class 0
    ∷ (put (in_row 1 4) 1 case_a gives Err (FieldConflict 1))
    ∷ (put (in_row 0 5) 1 case_a gives Err (FieldConflict 0))
    ∷ (put (in_row 2 24) 1 case_a gives Err (FieldConflict 2))
    ∷ (put (in_row 2 28) 1 case_a gives Err (FieldConflict 2))
    -- one field: its 6 first, b 16,777,216 + 300 and 33,554,432 + 300
    ∷ (put (in_row 1 23) 1 case_a gives Err (FieldConflict 1))
    ∷ (put (in_row 1 23) 2 case_a gives Err (RowField 1))
    ∷ (put (in_row 1 23) 2 (put (in_row 1 4) 1 case_a) gives Err (RowField 1))
    -- one row: the first field, 20 before a later 6 and 6 before a later 20
    ∷ (put (in_row 1 5) 1 (put (in_row 1 31) 1 case_a) gives Err (FieldConflict 1))
    ∷ (put (in_row 1 4) 1 (put (in_row 1 31) 1 case_a) gives Err (FieldConflict 1))
    ∷ (put (in_row 1 4) 1 (put (in_row 1 11) 1 case_a) gives Err (RowField 1))
    ∷ (put (in_row 1 4) 5 (put (in_row 1 5) 1 case_a) gives Err (RowField 1))
    -- 7
    ∷ (put (in_row 1 0) 11 case_a gives Err (IdOrder 1))
    ∷ (put (in_row 2 0) 1 case_a gives Err (IdOrder 2))
    ∷ (put (in_row 0 3) 1 case_a gives Err (IdOrder 1))  -- the first id's highest byte
    -- one row: 6 and 20 before 7
    ∷ (put (in_row 1 0) 0 (put (in_row 1 31) 1 case_a) gives Err (RowField 1))
    ∷ (put (in_row 1 0) 0 (put (in_row 1 28) 1 case_a) gives Err (FieldConflict 1))
    -- row by row
    ∷ (put (in_row 1 0) 0 (put (in_row 2 4) 5 case_a) gives Err (IdOrder 1))
    ∷ (put (in_row 1 0) 0 (put (in_row 2 5) 1 case_a) gives Err (IdOrder 1))
    ∷ (put (in_row 1 4) 5 (put (in_row 2 0) 0 case_a) gives Err (RowField 1))
    ∷ (put (in_row 0 28) 1 (put (in_row 1 4) 5 case_a) gives Err (FieldConflict 0))
    ∷ (put (in_row 0 31) 1 (put (in_row 1 5) 1 case_a) gives Err (RowField 0))
    ∷ []

-- `fields` also with 32 bytes more a unit, as in an archive record
cases-right : map (λ (c : Case). checked 32 c.bytes) (whole ++ fields) ++ map (λ (c : Case). checked 64 (c.bytes ++ zeros 96)) fields
    ≡ map (λ (c : Case). c.answer) (whole ++ fields ++ fields)
unfolding unit_bytes joined sheet_bytes in_bytes first_refusal unit_row rows sheet_of header_tests row_tests field_rules row_rules sheet_rules checked
cases-right = refl

-- amounts of Wh: the last one, and over
last_amount : plus_wh 3999999999 1 ≡ Some (record { 0 = 4000000000 })
last_amount = refl

over : plus_wh 4000000000 1 ≡ None
over = refl

-- Computed cases of the ranges (document 01, "The sheet"; 2026-03), from the bytes on: each field passes at its lowest and its highest number, and not one below or one above; a clash is told
-- from its lowest to its highest number. One table, one theorem.
use Rattle.std.specs.Prelude.{◌≡◌, refl, List, [], ◌∷◌, ◌++◌, map, ℕ, zero, suc, ◌+◌, ◌-◌, ◌/◌, ◌%◌, eqb, get_or, take, if◌then◌else◌, Ok, Err}
use Rattle.sheet.specs.declared.refusal.Refusal.{Refusal}
use Rattle.sheet.specs.Refusals.{Outcome, first_refusal}
use Rattle.sheet.specs.declared.refusal.Refusal.TheVariants.{HeaderField, WrongLength, RowField, FieldConflict}
use Rattle.sheet.specs.Layout.{in_bytes, unit_row, rows, sheet_of}
use Rattle.sheet.specs.Check.{header_tests, row_tests, field_rules, row_rules, sheet_rules, checked}
use Rattle.sheet.specs.Cases.Samples.{zeros, put, unit_bytes, joined, sheet_bytes}

-- ---- sheets that pass: month 1, one unit with KF 1,000 and p 100, all numbers not named 0
abbrev unit : (status class : ℕ) → List ℕ
unit status class = unit_bytes 11 status class 1000 100 0 0 0 0 0

-- by model, without hot water: v 20 for model 3, f 30 for models 3 to 5
abbrev model : ℕ → List ℕ
model m = sheet_bytes 1 m 0 (get_or (0 ∷ 0 ∷ 0 ∷ 20 ∷ []) m 0) 0 0 (get_or (0 ∷ 0 ∷ 0 ∷ 30 ∷ 30 ∷ 30 ∷ []) m 0) 0 0 0 (zeros 6) (unit 0 0 ∷ [])

-- by source, of model 2: t 50 for source 2
abbrev source : ℕ → List ℕ
source w = sheet_bytes 1 2 w 0 0 0 0 (get_or (0 ∷ 0 ∷ 50 ∷ []) w 0) 0 0 (zeros 6) (unit 0 0 ∷ [])

-- by water class, of model 2 with source 1
abbrev class : ℕ → List ℕ
class c = sheet_bytes 1 2 1 0 0 0 0 0 0 0 (zeros 6) (unit 0 c ∷ [])

-- by status, of model 5 without hot water
abbrev status : ℕ → List ℕ
status k = sheet_bytes 1 5 0 0 0 0 30 0 0 0 (zeros 6) (unit k 0 ∷ [])

-- ---- fields: a sheet with a number written into it
abbrev Field : Type 0
Field = List ℕ → ℕ → List ℕ

abbrev written : (at count x : ℕ) → List ℕ → List ℕ
written at zero x sheet = sheet
written at (suc count) x sheet = written (at + 1) count (x / 256) (put at (x % 256) sheet)

-- the field in bytes `first` to `last` of the header, of the row
abbrev bytes : (first last : ℕ) → Field
bytes first last sheet x = written first (last + 1 - first) x sheet

abbrev in_row : (first last : ℕ) → Field
in_row first last = bytes (48 + first) (48 + last)

-- ---- lines: sheets by a number, its lowest and highest
infix 80 ◌to◌
data Ends : Type 0 where
  ◌to◌ : ℕ → ℕ → Ends

infix 70 ◌passes◌else◌
infix 70 ◌clashes◌
data Line : Type 0 where
  -- passes at both ends; one below and one above are refused so
  ◌passes◌else◌ : (ℕ → List ℕ) → Ends → Refusal → Line
  -- 20 at both ends; one below passes, one above is 6
  ◌clashes◌ : (ℕ → List ℕ) → Ends → Line

-- a field on a sheet of each model, source, water class or status in turn, the first being k
abbrev each : (ℕ → List ℕ) → (k : ℕ) → Field → Refusal → List Ends → List Line
each sheets k field r [] = []
each sheets k field r (e ∷ es) = (field (sheets k) passes e else r) ∷ each sheets (k + 1) field r es

abbrev by_model : Field → Refusal → List Ends → List Line
by_model = each model 1

abbrev by_source : Field → Refusal → List Ends → List Line
by_source = each source 0

-- a field with one range for all, on one sheet
abbrev always : Field → Refusal → Ends → List Line
always field r e = (field (class 1) passes e else r) ∷ []

-- ---- 4: each field's place is its first byte
abbrev header : List Line
header =
    always (bytes 6 6) (HeaderField 6) (1 to 12)  -- month
    ++ (model passes 1 to 5 else HeaderField 7 ∷ [])
    ++ always (bytes 8 9) (HeaderField 8) (1 to 160)  -- n
    ++ always (bytes 9 9) (HeaderField 8) (0 to 0)  -- its higher byte
    ++ (source passes 0 to 3 else HeaderField 10 ∷ [])
    ++ by_model (bytes 11 11) (HeaderField 11) (0 to 0 ∷ 0 to 0 ∷ 20 to 30 ∷ 0 to 60 ∷ 0 to 0 ∷ [])  -- v
    ++ by_model (bytes 12 12) (HeaderField 12) (0 to 0 ∷ 0 to 0 ∷ 0 to 50 ∷ 0 to 50 ∷ 0 to 50 ∷ [])  -- z
    ++ by_source (bytes 13 13) (HeaderField 13) (0 to 0 ∷ 0 to 50 ∷ 0 to 50 ∷ 0 to 50 ∷ [])  -- y
    ++ by_model (bytes 14 14) (HeaderField 14) (0 to 0 ∷ 0 to 0 ∷ 25 to 35 ∷ 25 to 35 ∷ 25 to 35 ∷ [])  -- f
    ++ by_source (bytes 15 15) (HeaderField 15) (0 to 0 ∷ 0 to 0 ∷ 50 to 200 ∷ 0 to 0 ∷ [])  -- t
    ++ always (bytes 16 19) (HeaderField 16) (0 to 4000000000)  -- M
    ++ always (bytes 20 23) (HeaderField 20) (0 to 100000)  -- price
    ++ always (bytes 23 23) (HeaderField 20) (0 to 0)  -- its highest byte
    ++ by_source (bytes 24 27) (HeaderField 24) (0 to 0 ∷ 0 to 4000000000 ∷ 0 to 20000000 ∷ 0 to 4000000000 ∷ [])  -- h1
    ++ by_source (bytes 28 31) (HeaderField 28) (0 to 0 ∷ 0 to 0 ∷ 0 to 0 ∷ 0 to 4000000000 ∷ [])  -- h2
    ++ by_source (bytes 32 35) (HeaderField 32) (0 to 0 ∷ 0 to 0 ∷ 0 to 0 ∷ 0 to 4000000000 ∷ [])  -- h3
    ++ by_source (bytes 36 39) (HeaderField 36) (0 to 0 ∷ 0 to 0 ∷ 0 to 0 ∷ 0 to 4000000000 ∷ [])  -- h4
    ++ by_source (bytes 40 43) (HeaderField 40) (0 to 0 ∷ 0 to 0 ∷ 0 to 0 ∷ 0 to 4000000000 ∷ [])  -- h5
    ++ by_source (bytes 44 47) (HeaderField 44) (0 to 0 ∷ 0 to 0 ∷ 0 to 0 ∷ 0 to 4000000000 ∷ [])  -- h6

-- ---- 6: the fixed ranges, where nothing clashes
abbrev out : Refusal
out = RowField 0

abbrev row : List Line
row =
    each model 3 (in_row 4 4) out (0 to 4 ∷ 0 to 4 ∷ 0 to 4 ∷ [])  -- status
    ++ each source 1 (in_row 5 5) out (0 to 2 ∷ 0 to 2 ∷ 0 to 2 ∷ [])  -- water class
    ++ always (in_row 6 7) out (1 to 1000)  -- KF
    ++ always (in_row 8 11) out (1 to 10000)  -- p
    ++ always (in_row 12 15) out (0 to 10000)  -- s
    ++ always (in_row 16 19) out (0 to 100000)  -- q
    ++ each model 5 (in_row 20 23) out (0 to 25000000 ∷ [])  -- b
    ++ each class 1 (in_row 24 27) out (0 to 1000000 ∷ [])  -- litres
    ++ each class 1 (in_row 28 29) out (0 to 50 ∷ 0 to 50 ∷ [])  -- persons
    ++ always (in_row 30 31) out (0 to 0)
    -- the highest byte of p, s, q, litres, persons and of the last two
    ++ always (in_row 11 11) out (0 to 0)
    ++ always (in_row 15 15) out (0 to 0)
    ++ always (in_row 19 19) out (0 to 0)
    ++ always (in_row 27 27) out (0 to 0)
    ++ always (in_row 29 29) out (0 to 0)
    ++ always (in_row 31 31) out (0 to 0)

-- ---- 20: each field that may clash, up to the end of its fixed range
abbrev conflicts : List Line
conflicts =
    in_row 4 4 (model 1) clashes 1 to 4  -- status
    ∷ in_row 4 4 (model 2) clashes 1 to 4
    ∷ in_row 5 5 (source 0) clashes 1 to 2  -- water class
    ∷ in_row 20 23 (model 1) clashes 1 to 25000000  -- b
    ∷ in_row 20 23 (model 2) clashes 1 to 25000000
    ∷ in_row 20 23 (model 3) clashes 50001 to 25000000
    ∷ in_row 20 23 (model 4) clashes 50001 to 25000000
    ∷ in_row 20 23 (status 1) clashes 1 to 25000000
    ∷ in_row 20 23 (status 2) clashes 1 to 25000000
    ∷ in_row 20 23 (status 3) clashes 1 to 25000000
    ∷ in_row 20 23 (status 4) clashes 1 to 25000000
    ∷ in_row 24 27 (class 0) clashes 1 to 1000000  -- litres
    ∷ in_row 24 27 (class 2) clashes 1 to 1000000
    ∷ in_row 28 29 (class 0) clashes 1 to 50  -- persons
    ∷ []

-- ---- the theorem
abbrev one_below : ℕ → List ℕ
one_below zero = []
one_below (suc x) = x ∷ []

abbrev inside : Ends → List ℕ
inside (low to high) = if eqb low high then low ∷ [] else low ∷ high ∷ []

abbrev outside : Ends → List ℕ
outside (low to high) = one_below low ++ (high + 1) ∷ []

abbrev answers : (List ℕ → List ℕ) → Line → List Outcome
answers part (sheets passes ends else r) = map (λ x. checked 32 (part (sheets x))) (inside ends ++ outside ends)
answers part (sheets clashes low to high) = map (λ x. checked 32 (part (sheets x))) (one_below low ++ low ∷ high ∷ (high + 1) ∷ [])

abbrev expected : Outcome → Line → List Outcome
expected fine (sheets passes ends else r) = map (λ _. fine) (inside ends) ++ map (λ _. Err r) (outside ends)
expected fine (sheets clashes ends) = fine ∷ Err (FieldConflict 0) ∷ Err (FieldConflict 0) ∷ Err (RowField 0) ∷ []

-- A field of the header is tested on the 48 bytes of the header alone: those that pass 4 are refused by 5.
ranges-right : map (answers (take 48)) header ++ map (answers (λ bytes. bytes)) (row ++ conflicts)
    ≡ map (expected (Err WrongLength)) header ++ map (expected (Ok tt)) (row ++ conflicts)
unfolding unit_bytes joined sheet_bytes in_bytes first_refusal unit_row rows sheet_of header_tests row_tests field_rules row_rules sheet_rules checked
ranges-right = refl

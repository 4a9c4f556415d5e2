-- Refusals: their numbers, their places and their order (document 01, "Refused sheets and calls", and document 02).
use Rattle.std.specs.Prelude.{Bool, true, false, List, [], ◌∷◌, ℕ, Result, Ok, Err}
use Rattle.sheet.specs.declared.refusal.Refusal.{Refusal}
use Rattle.sheet.specs.declared.refusal.Refusal.TheVariants.{TooShort, BadMagic, UnsupportedVersion, HeaderField, WrongLength, RowField, IdOrder}
use Rattle.sheet.specs.declared.refusal.Refusal.TheVariants.{HotWaterExceedsMeter, ZeroDivisor, NoReadings, MetersExceedHeat, UnmeteredExceedsHeat}
use Rattle.sheet.specs.declared.refusal.Refusal.TheVariants.{BufferLength, BadArchive, BadYearBook, OtherBuilding, MonthState, NoSuchUnit, BadYearSums, FieldConflict}
use Rattle.sheet.specs.declared.refusal.Refusal.TheVariants.{NegativeCommonHeat, BadGroup, FundShort, RateTooHigh, FundFull}

-- the document's number, with the trade's word. Wherever 1 to 7 or 1 to 12 is named, 20 goes along with 6 (2026-03).
abbrev pub number_of : Refusal → ℕ
number_of TooShort = 1  -- stub
number_of BadMagic = 2  -- mark
number_of UnsupportedVersion = 3  -- version
number_of (HeaderField k) = 4  -- header
number_of WrongLength = 5  -- length
number_of (RowField i) = 6  -- row
number_of (IdOrder i) = 7  -- order
number_of HotWaterExceedsMeter = 8  -- water
number_of ZeroDivisor = 9  -- divisor
number_of NoReadings = 10  -- unread
number_of MetersExceedHeat = 11  -- calorimeters
number_of UnmeteredExceedsHeat = 12  -- overcharge
number_of BufferLength = 13  -- list
number_of BadArchive = 14  -- archive
number_of BadYearBook = 15  -- book
number_of OtherBuilding = 16  -- building
number_of MonthState = 17  -- month
number_of NoSuchUnit = 18  -- place
number_of BadYearSums = 19  -- sums (2026-02)
number_of (FieldConflict i) = 20  -- clash (2026-03)
number_of NegativeCommonHeat = 21  -- difference (2026-04)
number_of BadGroup = 22  -- group (2026-04)
number_of FundShort = 23  -- fund short (2026-07)
number_of RateTooHigh = 24  -- rate (2026-07)
number_of FundFull = 25  -- fund full (2026-07)

-- the place: the row from 0 for 6, 7 and 20; the header field's first byte in the sheet for 4 (2026-03), 0 where 4 is about the call itself (2026-05); else 0
abbrev pub place_of : Refusal → ℕ
place_of TooShort = 0
place_of BadMagic = 0
place_of UnsupportedVersion = 0
place_of (HeaderField k) = k
place_of WrongLength = 0
place_of (RowField i) = i
place_of (IdOrder i) = i
place_of HotWaterExceedsMeter = 0
place_of ZeroDivisor = 0
place_of NoReadings = 0
place_of MetersExceedHeat = 0
place_of UnmeteredExceedsHeat = 0
place_of BufferLength = 0
place_of BadArchive = 0
place_of BadYearBook = 0
place_of OtherBuilding = 0
place_of MonthState = 0
place_of NoSuchUnit = 0
place_of BadYearSums = 0
place_of (FieldConflict i) = i
place_of NegativeCommonHeat = 0
place_of BadGroup = 0
place_of FundShort = 0
place_of RateTooHigh = 0
place_of FundFull = 0

-- A rule `condition ⇒ refusal`.
infix 20 ◌⇒◌
pub data Rule : Type 0 where
  ◌⇒◌ : Bool → Refusal → Rule

-- What a call answers: `Ok` when it is accepted, else the refusal.
abbrev pub Outcome : Type 0
Outcome = Result (Unit {0}) Refusal

-- an answer without the value that it may bring
abbrev pub outcome_of : {A : Type 0} → Result A Refusal → Outcome
outcome_of (Ok x) = Ok tt
outcome_of (Err r) = Err r

-- Of a list of rules the first whose condition holds decides.
unfoldable pub first_refusal : List Rule → Outcome
first_refusal [] = Ok tt
first_refusal ((true ⇒ r) ∷ rules) = Err r
first_refusal ((false ⇒ r) ∷ rules) = first_refusal rules

-- what an answer leaves: a refused call keeps what it was lent
abbrev pub afterwards : {A : Type 0} → Outcome → (before written : A) → A
afterwards (Ok tt) before written = written
afterwards (Err r) before written = before

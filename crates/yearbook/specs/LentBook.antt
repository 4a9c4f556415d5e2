-- The year book in a lent list of 15,557 numbers, with the year sums beside it (document 01, "Year book", refusals 15 to 18; 2026-02, 19):
-- for each call the answer and both lists afterwards. Any lists, of any length and contents, have them.
use Rattle.std.specs.Prelude.{◌≡◌, Bool, not, ◌||◌, List, [], ◌∷◌, ◌++◌, map, ℕ, ◌+◌, ◌*◌, ◌-◌, ltb, eqb, length, get_or, take, drop, set, replicate, if◌then◌else◌, Result, Ok, Err}
use Rattle.std.proofs.lemmas.List.Edits.{sets}
use Rattle.sheet.specs.declared.refusal.Refusal.{Refusal}
use Rattle.sheet.specs.declared.refusal.Refusal.TheVariants.{BadYearBook, OtherBuilding, MonthState, NoSuchUnit, BadYearSums}
use Rattle.sheet.specs.Refusals.{Outcome, Rule, ◌⇒◌, first_refusal, afterwards}
use Rattle.sheet.specs.Tests.{any}
use Rattle.sheet.specs.RuleSets.{newest}
use Rattle.sheet.specs.Layout.{Sheet, sheet_of}
use Rattle.sheet.specs.Check.{same_list, sheet_rules}
use Rattle.month.specs.Month.{bill_cents, statement_of, settle_rules}
use Rattle.month.specs.Laws.{sum_to}
use Rattle.year_sums.specs.YearSums.{zero_sums, updated, wrong_sums, bad_sums}
use Rattle.yearbook.specs.declared.totals.YearTotals.{YearTotals}
use Rattle.yearbook.specs.Calls.{Call, post, replace, withdraw, year, Reply, refused, totals, eight, reply_of}

-- what every book call is lent: the book, and beside it the list of sums
pub record Lent : Type 0 where
  pub book : List ℕ
  pub sums : List ℕ

abbrev pub lent : (book sums : List ℕ) → Lent
lent book sums = record { book = book; sums = sums }

-- ---- the layout; a month's place i is its number less 1
abbrev pub book_length : ℕ
book_length = 15557

abbrev pub unit_count_in : List ℕ → ℕ
unit_count_in b = get_or b 0 0  -- 0: n

abbrev pub mark_at : ℕ → ℕ
mark_at i = 1 + i  -- 1–12: marks

abbrev pub meter_at : ℕ → ℕ
meter_at i = 13 + i  -- 13–24: M

abbrev pub bill_at : ℕ → ℕ
bill_at i = 25 + i  -- 25–36: bills

abbrev pub ids_at : ℕ
ids_at = 37  -- 37–196: ids

abbrev pub ids_in : List ℕ → List ℕ
ids_in b = take (unit_count_in b) (drop ids_at b)  -- the first n

abbrev pub block_length : ℕ
block_length = 1280

abbrev pub block_at : ℕ → ℕ
block_at i = 197 + block_length * i  -- from 197 on: 12 blocks of 1,280 statement numbers

-- a month's block, all 1,280 numbers as they stand there
abbrev pub block_in : List ℕ → ℕ → List ℕ
block_in b i = take block_length (drop (block_at i) b)

-- the place of a sheet's month
abbrev pub place_of_month : List ℕ → ℕ
place_of_month sheet = (sheet_of sheet).month - 1

-- A month stands whose mark is 1.
abbrev pub marked : List ℕ → ℕ → Bool
marked b i = eqb (get_or b (mark_at i) 0) 1

-- ---- refusals
-- 15: not 15,557 numbers
abbrev pub wrong_size : List ℕ → Bool
wrong_size b = not (eqb (length b) book_length)

-- except at opening, n over 160 or a mark over 1
unfoldable pub bad_book : List ℕ → Bool
bad_book b = wrong_size b || ltb 160 (unit_count_in b) || any (map (ltb 1) (take 12 (drop 1 b)))

-- 16: n or ids differ from the book's
unfoldable pub other_building : List ℕ → Sheet → Bool
other_building b s = not (eqb (unit_count_in b) s.unit_count) || not (same_list (ids_in b) (map (λ u. u.id) s.units))

-- ---- blocks
-- the numbers of a statement of n units, zero after 8n
abbrev pub padded : ℕ → List ℕ → List ℕ
padded n numbers = numbers ++ replicate (block_length - 8 * n) 0

-- the block of a sheet, as the newest rules settle it
abbrev pub block_of : List ℕ → List ℕ
block_of sheet = let s = sheet_of sheet in padded s.unit_count (statement_of newest s)

abbrev pub zero_block : List ℕ
zero_block = replicate block_length 0

-- ---- writes
-- a month's mark, M, bill and block
unfoldable pub put_month : List ℕ → ℕ → (mark meter bill : ℕ) → (block : List ℕ) → List ℕ
put_month b i mark meter bill block = sets (set (set (set b (mark_at i) mark) (meter_at i) meter) (bill_at i) bill) (block_at i) block

-- posting and replacing write the sheet
unfoldable pub put_sheet : List ℕ → List ℕ → List ℕ
put_sheet b sheet = let s = sheet_of sheet in put_month b (place_of_month sheet) 1 s.shared_meter (bill_cents s) (block_of sheet)

-- withdrawing zeroes all four
unfoldable pub clear_month : List ℕ → ℕ → List ℕ
clear_month b month = put_month b (month - 1) 0 0 0 zero_block

-- opening writes n and ids, all else 0
unfoldable pub zero_book : List ℕ
zero_book = replicate book_length 0

unfoldable pub fresh_book : List ℕ → List ℕ
fresh_book sheet = let s = sheet_of sheet in sets (set zero_book 0 s.unit_count) ids_at (map (λ u. u.id) s.units)

-- ---- the answers, and the lists afterwards: a refused call keeps both
-- open: 15 by the length alone, 1 to 7, 19 by the length alone
unfoldable pub open_answer : Lent → List ℕ → Outcome
open_answer l sheet = first_refusal ((wrong_size l.book ⇒ BadYearBook) ∷ (sheet_rules 32 sheet ++ (wrong_sums l.sums ⇒ BadYearSums) ∷ []))

unfoldable pub opened : Lent → List ℕ → Lent
opened l sheet = afterwards (open_answer l sheet) l (lent (fresh_book sheet) zero_sums)

-- post and replace: 15, 1 to 12, 16, 17, 19; the sums lose an old block and gain the sheet's
unfoldable pub sheet_call_rules : Lent → (sheet : List ℕ) → (wrong_month : Bool) → (old : List ℕ) → List Rule
sheet_call_rules l sheet wrong_month old =
    (bad_book l.book ⇒ BadYearBook)
    ∷ (settle_rules sheet
    ++ (other_building l.book (sheet_of sheet) ⇒ OtherBuilding) ∷ (wrong_month ⇒ MonthState) ∷ (bad_sums l.sums old (block_of sheet) ⇒ BadYearSums) ∷ [])

-- the month holds the sheet, and so do the sums
unfoldable pub with_sheet : Lent → (sheet old : List ℕ) → Lent
with_sheet l sheet old = lent (put_sheet l.book sheet) (updated l.sums old (block_of sheet))

-- post: 17 when the month stands; nothing is taken off the sums
unfoldable pub post_answer : Lent → List ℕ → Outcome
post_answer l sheet = first_refusal (sheet_call_rules l sheet (marked l.book (place_of_month sheet)) zero_block)

unfoldable pub posted : Lent → List ℕ → Lent
posted l sheet = afterwards (post_answer l sheet) l (with_sheet l sheet zero_block)

-- replace: 17 when it doesn't; the month's block is taken off
unfoldable pub replace_answer : Lent → List ℕ → Outcome
replace_answer l sheet = first_refusal (sheet_call_rules l sheet (not (marked l.book (place_of_month sheet))) (block_in l.book (place_of_month sheet)))

unfoldable pub replaced : Lent → List ℕ → Lent
replaced l sheet = afterwards (replace_answer l sheet) l (with_sheet l sheet (block_in l.book (place_of_month sheet)))

-- withdraw: 15; 17 when the month isn't 1–12 or doesn't stand; 19; the month's block is taken off, nothing added
unfoldable pub withdraw_answer : Lent → ℕ → Outcome
withdraw_answer l month =
    first_refusal
    ((bad_book l.book ⇒ BadYearBook)
    ∷ (ltb month 1 ⇒ MonthState)
    ∷ (ltb 12 month ⇒ MonthState)
    ∷ (not (marked l.book (month - 1)) ⇒ MonthState)
    ∷ (bad_sums l.sums (block_in l.book (month - 1)) zero_block ⇒ BadYearSums)
    ∷ [])

unfoldable pub withdrawn : Lent → ℕ → Lent
withdrawn l month =
    afterwards (withdraw_answer l month) l (lent (clear_month l.book month) (updated l.sums (block_in l.book (month - 1)) zero_block))

-- year: 15, 18, 19 by the length alone; changes nothing
unfoldable pub year_rules : Lent → ℕ → List Rule
year_rules l place =
    (bad_book l.book ⇒ BadYearBook) ∷ (not (ltb place (unit_count_in l.book)) ⇒ NoSuchUnit) ∷ (wrong_sums l.sums ⇒ BadYearSums) ∷ []

unfoldable pub year_outcome : Lent → ℕ → Outcome
year_outcome l place = first_refusal (year_rules l place)

-- a number of a month by its mark
abbrev pub if_marked : (mark x : ℕ) → ℕ
if_marked mark x = if eqb mark 1 then x else 0

-- k: marks that are 1
unfoldable pub marks_in : List ℕ → ℕ
marks_in b = sum_to 12 (λ i. if_marked (get_or b (mark_at i) 0) 1)

-- the eight sums of the unit at a place, as the list has them
unfoldable pub sums_at : (sums : List ℕ) (place : ℕ) → List ℕ
sums_at sums place = map (λ j. get_or sums (8 * place + j) 0) eight

abbrev pub year_reply : Outcome → (k : ℕ) → (sums : List ℕ) → Reply
year_reply (Ok tt) k sums = totals k sums
year_reply (Err r) k sums = refused r

-- the sums are read, not added
unfoldable pub year_answer : Lent → ℕ → Reply
year_answer l place = year_reply (year_outcome l place) (marks_in l.book) (sums_at l.sums place)

-- ---- any call
unfoldable pub lent_reply : Lent → Call → Reply
lent_reply l (post sheet) = reply_of (post_answer l sheet)
lent_reply l (replace sheet) = reply_of (replace_answer l sheet)
lent_reply l (withdraw month) = reply_of (withdraw_answer l month)
lent_reply l (year place) = year_answer l place

unfoldable pub lent_after : Lent → Call → Lent
lent_after l (post sheet) = posted l sheet
lent_after l (replace sheet) = replaced l sheet
lent_after l (withdraw month) = withdrawn l month
lent_after l (year place) = l

-- ---- what the contract of a call says: its answer, and the lists that it leaves
pub record Opens (before : Lent) (sheet : List ℕ) (o : Outcome) (l : Lent) : Type 0 where
  pub answer : o ≡ open_answer before sheet
  pub after : l ≡ opened before sheet

pub record Answered (l : Lent) (c : Call) (r : Reply) (l' : Lent) : Type 0 where
  pub reply : r ≡ lent_reply l c
  pub after : l' ≡ lent_after l c

-- the year call's reply by value
abbrev pub to_reply : Result YearTotals Refusal → Reply
to_reply (Ok t) = totals t.k t.sums
to_reply (Err r) = refused r

abbrev pub totals_by : Outcome → (k : ℕ) → (sums : List ℕ) → Result YearTotals Refusal
totals_by (Ok tt) k sums = Ok (record { k = k; sums = sums })
totals_by (Err r) k sums = Err r

pub record Tells (l : Lent) (place : ℕ) (t : Result YearTotals Refusal) : Type 0 where
  pub answered : Answered l (year place) (to_reply t) l
  pub whole : t ≡ totals_by (year_outcome l place) (marks_in l.book) (sums_at l.sums place)

-- Demand 3: what is promised of every list of calls. proofs/EveryList.antt proves it (`every_list_of_calls`) and assumes nothing.
-- The customer's words stand in quotation marks.
use Rattle.std.specs.Prelude.{◌≡◌, ◌≢◌, List, map, ℕ, ◌+◌, ◌*◌, ◌<◌, length, get_or, Ok}
use Rattle.apportion.specs.Shares.{sum}
use Rattle.sheet.specs.declared.refusal.Refusal.TheVariants.{BadYearSums}
use Rattle.sheet.specs.Refusals.{Outcome}
use Rattle.sheet.specs.RuleSets.{newest}
use Rattle.sheet.specs.Layout.{sheet_of}
use Rattle.sheet.specs.Tests.{Each}
use Rattle.sheet.specs.Check.{checked}
use Rattle.sheet.specs.Chains.{CallsMade, replies, after_all}
use Rattle.month.specs.Fraction.{Near, sumᶠ}
use Rattle.month.specs.Month.{bill_cents, month_of, Settled, settled_sheet}
use Rattle.month.specs.Portions.{energy_portion, bill_part}
use Rattle.month.specs.Laws.{sum_to}
use Rattle.year_sums.specs.YearSums.{sums_length}
use Rattle.yearbook.specs.Calls.{Call, year, Reply, refused, totals}
use Rattle.yearbook.specs.PlainBook.{PlainBook, opened_plain, standing, unit_sums, called}
use Rattle.yearbook.specs.LentBook.{Lent, book_length, Opens, Answered}
use Rattle.yearbook.specs.Matches.{Matches}

-- "After every such list", over the months that stand in the plain book p: the lent lists l, for n units
pub record Kept (n : ℕ) (p : PlainBook) (l : Lent) : Type 0 where
  -- "the year calls for all units give .. k is the number of those months, and a unit's eight sums, four of energy and four of cents,
  -- are the sums of its numbers in those months' statements under document 01"
  pub year-calls : (place : ℕ) → place < n → Answered l (year place) (totals (length (standing p)) (unit_sums p place)) l
  -- their sheets settle by the newest rules, to the month whose statement, M and bill these are
  pub settled-months : Each (λ sheet. settled_sheet newest sheet ≡ Settled.settled (month_of newest (sheet_of sheet))) (standing p)
  -- "The energy sums of all units add exactly to the shared meter's readings,
  pub energies_add : sum_to n (λ u. sum_to 4 (λ j. get_or (unit_sums p u) j 0)) ≡ sum (map (λ sheet. (sheet_of sheet).shared_meter) (standing p))
  -- and their cent sums exactly to the bills."
  pub cents_add : sum_to n (λ u. sum_to 4 (λ j. get_or (unit_sums p u) (4 + j) 0)) ≡ sum (map (λ sheet. bill_cents (sheet_of sheet)) (standing p))
  -- "Each energy sum is at most 4k Wh from the sum of its unrounded portions in those months", by the newest rules.
  pub energy_near : (u j : ℕ) → u < n → j < 4 → Near (get_or (unit_sums p u) j 0) (sumᶠ (map (λ sheet. energy_portion newest (sheet_of sheet) u j) (standing p))) (4 * length (standing p))
  -- "Each cent sum is at most k cents from the sum of the bills' parts by those months' settled energies."
  pub cents_near : (u j : ℕ) → u < n → j < 4 → Near (get_or (unit_sums p u) (4 + j) 0) (sumᶠ (map (λ sheet. bill_part newest (sheet_of sheet) u j) (standing p))) (length (standing p))
  -- 2026-02: the list of sums matches the months.
  pub matches : Matches l

-- a book opened with a sheet, open's answer o, then calls with their answers, and the lists l that they leave
pub record YearBook (opening : List ℕ) (o : Outcome) (calls : List Call) (answers : List Reply) (l : Lent) : Type 0 where
  pub opens : o ≡ Ok tt
  -- "each call is accepted, or refused with number and place, exactly as in document 01's plain year book"
  pub same-replies : answers ≡ replies called (opened_plain opening) calls
  -- 2026-02: 19 never arises.
  pub never_19 : Each (λ r. r ≢ refused BadYearSums) answers
  pub kept : Kept (sheet_of opening).unit_count (after_all called (opened_plain opening) calls) l

-- "For every list of post, replace, withdraw and year calls, refused ones included, from a freshly opened book":
-- opened on 15,557 and 1,280 numbers of any contents, with any sheet that passes 1 to 7
abbrev pub EveryListOfCalls : Type 0
EveryListOfCalls =
    (before start l : Lent) (opening : List ℕ) (o : Outcome) (calls : List Call) (answers : List Reply)
    → length before.book ≡ book_length
    → length before.sums ≡ sums_length
    → checked 32 opening ≡ Ok tt
    → Opens before opening o start
    -- "Each call gets the book as the last one left it, and nobody else writes it meanwhile."
    -- 2026-02: "Demand 3 takes book and list together: each call, the year call too, is lent both as the open or the call before left them."
    → CallsMade Answered start calls answers l
    → YearBook opening o calls answers l

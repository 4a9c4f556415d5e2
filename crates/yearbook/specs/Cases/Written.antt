-- What opening and accepted calls leave in any lent lists, in literal places and numbers (document 01, "Year book"; 2026-02). proofs/Written.antt proves it.
use Rattle.std.specs.Prelude.{◌≡◌, refl, ◌≢◌, ◌⊎◌, List, [], ◌∷◌, map, ℕ, ◌+◌, ◌-◌, ◌≤◌, ◌<◌, length, get_or}
use Rattle.apportion.specs.Shares.{shares_by}
use Rattle.sheet.specs.Tests.{Each, all, any}
use Rattle.sheet.specs.Refusals.{first_refusal}
use Rattle.sheet.specs.RuleSets.{newest}
use Rattle.sheet.specs.Layout.{in_bytes, unit_row, rows, sheet_of}
use Rattle.sheet.specs.Check.{header_tests, row_tests, field_rules, row_rules, sheet_rules}
use Rattle.sheet.specs.Cases.Samples.{unit_bytes, joined, sheet_bytes}
use Rattle.month.specs.Weights.{all_metered, metered_sum, has_pool, total_area, unread_weight, unread_weights, pool_weight, reading_sum, read_area, read_surface, area_weight, surface_weight, read_weight, read_weights, units_of_class, litres_of_class1, persons_of_class2, water_weight}
use Rattle.month.specs.Steps.{split_by, in_unit_order, unit_by_unit, hot_water, space_heat, heat_parts, pool_shares, read_shares, heat, common_heat, water_parts, water, common_water, energies}
use Rattle.month.specs.Month.{hot_water_wh, space_heat_wh, zero_water_divisor, zero_divisor, month_rules, bill_cents, costs, four_and_four, statement_of, Month, month_of, settled, settle_rules, settled_sheet}
use Rattle.yearbook.specs.Calls.{Call, post, replace, withdraw, year, accepted}
use Rattle.yearbook.specs.LentBook.{Lent, opened, lent_reply, lent_after}
use Rattle.yearbook.specs.Cases.Runs.{by_area}

-- ---- the sheets
abbrev pub january : List ℕ
january = by_area 1 1000

abbrev pub december : List ℕ
december = by_area 12 50

-- what they settle to
abbrev pub two_units : (month meter bill : ℕ) → List ℕ → Month
two_units month meter bill numbers = record {
  month = month;
  unit_count = 2;
  ids = 11 ∷ 12 ∷ [];
  meter = meter;
  bill = bill;
  numbers = numbers;
}

abbrev pub january_numbers : List ℕ
january_numbers = 250 ∷ 0 ∷ 0 ∷ 0 ∷ 2 ∷ 0 ∷ 0 ∷ 0 ∷ 750 ∷ 0 ∷ 0 ∷ 0 ∷ 8 ∷ 0 ∷ 0 ∷ 0 ∷ []

abbrev pub december_numbers : List ℕ
december_numbers = 12 ∷ 0 ∷ 0 ∷ 0 ∷ 0 ∷ 0 ∷ 0 ∷ 0 ∷ 38 ∷ 0 ∷ 0 ∷ 0 ∷ 1 ∷ 0 ∷ 0 ∷ 0 ∷ []

abbrev pub january_settled : Month
january_settled = two_units 1 1000 10 january_numbers

abbrev pub december_settled : Month
december_settled = two_units 12 50 1 december_numbers

pub both_settle : map (settled_sheet newest) (january ∷ december ∷ []) ≡ map settled (january_settled ∷ december_settled ∷ [])
unfolding by_area unit_bytes joined sheet_bytes in_bytes
    shares_by all any first_refusal unit_row rows sheet_of header_tests row_tests field_rules row_rules sheet_rules
    all_metered metered_sum has_pool total_area unread_weight unread_weights pool_weight reading_sum read_area read_surface area_weight surface_weight read_weight read_weights units_of_class litres_of_class1 persons_of_class2 water_weight
    split_by in_unit_order unit_by_unit hot_water space_heat heat_parts pool_shares read_shares heat common_heat water_parts water common_water energies
    hot_water_wh space_heat_wh zero_water_divisor zero_divisor month_rules bill_cents costs four_and_four statement_of month_of settle_rules settled_sheet
both_settle = refl

-- ---- a month in the lent list
pub record Places : Type 0 where
  pub mark : ℕ
  pub meter : ℕ
  pub bill : ℕ
  pub block : ℕ  -- the first of 1,280

abbrev pub places : (mark meter bill block : ℕ) → Places
places mark meter bill block = record { mark = mark; meter = meter; bill = bill; block = block }

abbrev pub of_month1 : Places
of_month1 = places 1 13 25 197

abbrev pub of_month12 : Places
of_month12 = places 12 24 36 14277

pub record Numbers : Type 0 where
  pub mark : ℕ
  pub meter : ℕ
  pub bill : ℕ
  pub block : List ℕ  -- 0 after these

abbrev pub numbers : (mark meter bill : ℕ) → (block : List ℕ) → Numbers
numbers mark meter bill block = record { mark = mark; meter = meter; bill = bill; block = block }

-- what a call takes off a sum: post and year nothing, replace and withdraw the number that stands in the month's block
abbrev pub takes : Call → ℕ → ℕ
takes (post sheet) number = 0
takes (replace sheet) number = number
takes (withdraw month) number = number
takes (year place) number = 0

-- the lists after a month was written, whole
pub record Left (l after : Lent) (c : Call) (m : Numbers) (at : Places) : Type 0 where
  pub size : length after.book ≡ 15557
  pub mark : get_or after.book at.mark 0 ≡ m.mark
  pub meter : get_or after.book at.meter 0 ≡ m.meter
  pub bill : get_or after.book at.bill 0 ≡ m.bill
  pub block : (k : ℕ) → k < 1280 → get_or after.book (at.block + k) 0 ≡ get_or m.block k 0
  pub others : (x : ℕ) → x ≢ at.mark → x ≢ at.meter → x ≢ at.bill → (x < at.block) ⊎ (at.block + 1280 ≤ x) → get_or after.book x 0 ≡ get_or l.book x 0
  pub sums-size : length after.sums ≡ 1280
  pub sums : (k : ℕ) → k < 1280 → get_or after.sums k 0 ≡ get_or l.sums k 0 - takes c (get_or l.book (at.block + k) 0) + get_or m.block k 0

-- ---- what each of some calls leaves, when it is accepted
infix 15 ◌leave◌at◌
pub data Line : Type 0 where
  ◌leave◌at◌ : List Call → Numbers → Places → Line

abbrev pub Leave : Line → Type 0
Leave (calls leave m at p) = Each (λ c. (l : Lent) → lent_reply l c ≡ accepted → Left l (lent_after l c) c m p) calls

abbrev pub lines : List Line
lines =
    (post january ∷ replace january ∷ [] leave numbers 1 1000 10 january_numbers at of_month1)
    ∷ (withdraw 1 ∷ [] leave numbers 0 0 0 [] at of_month1)
    ∷ (post december ∷ replace december ∷ [] leave numbers 1 50 1 december_numbers at of_month12)
    ∷ (withdraw 12 ∷ [] leave numbers 0 0 0 [] at of_month12)
    ∷ []

-- ---- what opening leaves: n, the ids, all else 0, and sums of 0
pub record Fresh (after : Lent) : Type 0 where
  pub size : length after.book ≡ 15557
  pub count : get_or after.book 0 0 ≡ 2
  pub first : get_or after.book 37 0 ≡ 11
  pub second : get_or after.book 38 0 ≡ 12
  pub others : (x : ℕ) → x ≢ 0 → x ≢ 37 → x ≢ 38 → get_or after.book x 0 ≡ 0
  pub sums-size : length after.sums ≡ 1280
  pub sums : (k : ℕ) → get_or after.sums k 0 ≡ 0

pub record Written : Type 0 where
  pub opening : (l : Lent) → length l.book ≡ 15557 → length l.sums ≡ 1280 → Fresh (opened l january)
  pub called : Each Leave lines

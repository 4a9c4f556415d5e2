-- Computed cases of the calls, worked by hand, from the sheet's bytes on: the balance afterwards, and each refusal with its place and order (2026-07).
use Rattle.std.specs.Prelude.{◌≡◌, refl, List, [], ◌∷◌, ◌++◌, map, ℕ, Ok, Err}
use Rattle.apportion.specs.Shares.{shares_by}
use Rattle.sheet.specs.Tests.{all, any}
use Rattle.sheet.specs.declared.refusal.Refusal.{Refusal}
use Rattle.sheet.specs.declared.refusal.Refusal.TheVariants.{TooShort, BadMagic, UnsupportedVersion, HeaderField, WrongLength, RowField, IdOrder, HotWaterExceedsMeter, ZeroDivisor, NoReadings, MetersExceedHeat, UnmeteredExceedsHeat, FieldConflict, FundShort, RateTooHigh, FundFull}
use Rattle.sheet.specs.Refusals.{Outcome, first_refusal}
use Rattle.sheet.specs.Layout.{in_bytes, unit_row, rows, sheet_of}
use Rattle.sheet.specs.Check.{header_tests, row_tests, field_rules, row_rules, sheet_rules}
use Rattle.sheet.specs.Cases.Samples.{zeros, put, unit_bytes, joined, sheet_bytes, simple, good, order, sheet_a, pair, unsettled, place_by}
use Rattle.month.specs.Weights.{all_metered, metered_sum, has_pool, total_area, unread_weight, unread_weights, read_surface, units_of_class, litres_of_class1, persons_of_class2}
use Rattle.month.specs.Steps.{split_by, hot_water, space_heat, heat_parts}
use Rattle.month.specs.Month.{hot_water_wh, space_heat_wh, zero_water_divisor, zero_divisor, month_rules, settle_rules}
use Rattle.fund.specs.Fees.{pays, month_fees}
use Rattle.fund.specs.Answer.{collect_rules, collect_answer, collected, pay_answer, paid_out}

-- ---- sheets beside `good`, which brings 2,000 and 3,000 cents at a rate of 50,000
-- model 3, p 500 of status 1, p 1,000 read: at a rate of 50,000 it brings 2,500 cents
unfoldable pub one_without : List ℕ
one_without = sheet_a 25 (pair 1 0 0 300)

-- model 5, both read: it brings nothing
unfoldable pub all_read : List ℕ
all_read = sheet_bytes 1 5 0 0 0 0 30 0 1000 10000 (zeros 6) (pair 0 400 0 600)

-- the largest balance
abbrev pub most : ℕ
most = 18446744073709551615

-- ---- what a call gives: the outcome, the place that a refusal returns, the balance afterwards
record Reply : Type 0 where
  outcome : Outcome
  place : ℕ
  balance : ℕ

abbrev reply : Outcome → ℕ → Reply
reply answer after = record { outcome = answer; place = place_by answer; balance = after }

collect : (balance : ℕ) (sheet : List ℕ) (rate : ℕ) → Reply
collect balance sheet rate = reply (collect_answer balance sheet rate) (collected balance sheet rate)

pay : (balance amount : ℕ) → Reply
pay balance amount = reply (pay_answer balance amount) (paid_out balance amount)

leaves : ℕ → Reply
leaves balance = record { outcome = Ok tt; place = 0; balance = balance }

-- refused, with the balance as it was
keeps : (balance : ℕ) → Refusal → (place : ℕ) → Reply
keeps balance r place = record { outcome = Err r; place = place; balance = balance }

-- ---- the table: what the definitions give, and what is expected
infix 70 ◌gives◌
data Case : Type 0 where
  ◌gives◌ : Reply → Reply → Case

abbrev given : Case → Reply
given (x gives y) = x

abbrev expected : Case → Reply
expected (x gives y) = y

cases : List Case
cases =
    -- Fees come on top, also of a fund that holds nothing; none at a rate of 0, and where all are read.
    collect 0 good 50000 gives leaves 5000
    ∷ collect 7 good 50000 gives leaves 5007
    ∷ collect 7 one_without 50000 gives leaves 2507
    ∷ collect 7 good 0 gives leaves 7
    ∷ collect 7 all_read 1000000 gives leaves 7
    -- 24: over 1,000,000, also where no unit pays.
    ∷ collect 7 good 1000000 gives leaves 100007
    ∷ collect 7 good 1000001 gives keeps 7 RateTooHigh 0
    ∷ collect 7 all_read 1000001 gives keeps 7 RateTooHigh 0
    ∷ collect 7 good 4294967295 gives keeps 7 RateTooHigh 0
    -- 25: the largest balance is reached, and not passed by one cent. A full fund takes a month without fees.
    ∷ collect 18446744073709546615 good 50000 gives leaves most
    ∷ collect 18446744073709546616 good 50000 gives keeps 18446744073709546616 FundFull 0
    ∷ collect most good 50000 gives keeps most FundFull 0
    ∷ collect most good 0 gives leaves most
    ∷ collect most all_read 50000 gives leaves most
    -- 24 before 25.
    ∷ collect most good 1000001 gives keeps most RateTooHigh 0
    -- The sheet's own 1 to 7, each before 24, and before 25 where it has fees: no bytes, mark, version, month 13 at byte 6, a byte too many; in the second row KF 1,001, a status of model 3, the id.
    ∷ collect most [] 1000001 gives keeps most TooShort 0
    ∷ collect most (put 0 0 good) 1000001 gives keeps most BadMagic 0
    ∷ collect most (put 4 2 good) 1000001 gives keeps most UnsupportedVersion 0
    ∷ collect most (put 6 13 good) 1000001 gives keeps most (HeaderField 6) 6
    ∷ collect most (good ++ 0 ∷ []) 1000001 gives keeps most WrongLength 0
    ∷ collect most (put 86 233 good) 1000001 gives keeps most (RowField 1) 1
    ∷ collect most (put 84 1 good) 1000001 gives keeps most (FieldConflict 1) 1
    ∷ collect most order 1000001 gives keeps most (IdOrder 1) 1
    -- 23: one cent more than there is. Nothing and all can be paid.
    ∷ pay 7 8 gives keeps 7 FundShort 0
    ∷ pay 0 1 gives keeps 0 FundShort 0
    ∷ pay 18446744073709551614 most gives keeps 18446744073709551614 FundShort 0
    ∷ pay 7 6 gives leaves 1
    ∷ pay 7 7 gives leaves 0
    ∷ pay most most gives leaves 0
    ∷ pay 7 0 gives leaves 7
    ∷ pay 0 0 gives leaves 0
    ∷ []

all-cases : map given cases ≡ map expected cases
unfolding cases simple good one_without all_read unit_bytes joined sheet_bytes in_bytes
    any all first_refusal unit_row rows sheet_of header_tests row_tests field_rules row_rules sheet_rules
    all_metered metered_sum has_pool total_area unread_weight unread_weights read_surface units_of_class litres_of_class1 persons_of_class2
    shares_by split_by hot_water space_heat heat_parts hot_water_wh space_heat_wh zero_water_divisor zero_divisor month_rules settle_rules
    pays month_fees collect_rules collect_answer collected pay_answer paid_out
    collect pay leaves keeps
all-cases = refl

-- A sheet of each of 8 to 12, by itself and before 24; those of 8, 9 and 12 bring fees, so before 25 too.
by_month : List Refusal
by_month = HotWaterExceedsMeter ∷ ZeroDivisor ∷ NoReadings ∷ MetersExceedHeat ∷ UnmeteredExceedsHeat ∷ []

unsettled-refused : (map (λ sheet. collect 7 sheet 50000) unsettled ≡ map (λ r. keeps 7 r 0) by_month) × (map (λ sheet. collect most sheet 1000001) unsettled ≡ map (λ r. keeps most r 0) by_month)
unfolding by_month unsettled unit_bytes joined sheet_bytes in_bytes
    any all first_refusal unit_row rows sheet_of header_tests row_tests field_rules row_rules sheet_rules
    all_metered metered_sum has_pool total_area unread_weight unread_weights read_surface units_of_class litres_of_class1 persons_of_class2
    shares_by split_by hot_water space_heat heat_parts hot_water_wh space_heat_wh zero_water_divisor zero_divisor month_rules settle_rules
    pays month_fees collect_rules collect_answer collected
    collect keeps
unsettled-refused = (refl, refl)

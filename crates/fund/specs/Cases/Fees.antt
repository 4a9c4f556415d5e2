-- Computed cases of fees, worked by hand, from the sheet's bytes on (2026-07).
use Rattle.std.specs.Prelude.{◌≡◌, refl, List, [], ◌∷◌, map, ℕ}
use Rattle.sheet.specs.Layout.{in_bytes, unit_row, rows, sheet_of}
use Rattle.sheet.specs.Cases.Samples.{unit_bytes, joined, sheet_bytes, heated, simple}
use Rattle.fund.specs.Fees.{pays, month_fees}

-- ---- sheets. They are only added up, not checked: 20 would refuse some.
-- model 2, one unit
unfoldable pub alone : (p : ℕ) → List ℕ
alone p = simple 2 (heated 11 0 1000 p 0 ∷ [])

-- five units with these statuses, p 1, 10, 100, 1,000, 10,000: at a rate of 10,000 a unit pays p cents, so that each digit of the sum is a unit's. KF, s, q, b and water play no part.
unfoldable pub five : (status₁ status₂ status₃ status₄ status₅ : ℕ) → List (List ℕ)
five status₁ status₂ status₃ status₄ status₅ =
    unit_bytes 11 status₁ 0 1000 1 7 7 7 7 7
    ∷ unit_bytes 12 status₂ 0 1 10 7 7 7 7 7
    ∷ unit_bytes 13 status₃ 0 500 100 7 7 7 7 7
    ∷ unit_bytes 14 status₄ 0 1000 1000 7 7 7 7 7
    ∷ unit_bytes 15 status₅ 0 250 10000 7 7 7 7 7
    ∷ []

-- p 1 three times
unfoldable pub thrice : List (List ℕ)
thrice = heated 11 0 1000 1 0 ∷ heated 12 0 1000 1 0 ∷ heated 13 0 1000 1 0 ∷ []

-- ---- the table: a sheet, a rate, the cents
data Line : Type 0 where
  line : (sheet : List ℕ) (rate cents : ℕ) → Line

abbrev fees_of_line : Line → ℕ
fees_of_line (line sheet rate cents) = month_fees rate (sheet_of sheet)

abbrev cents_of_line : Line → ℕ
cents_of_line (line sheet rate cents) = cents

lines : List Line
lines =
    -- 50 m² at 0.5 EUR a m².
    line (alone 500) 50000 2500
    -- 0.4999, 0.5 and 1.4999, 1.5 cents.
    ∷ line (alone 1) 4999 0
    ∷ line (alone 1) 5000 1
    ∷ line (alone 1) 14999 1
    ∷ line (alone 1) 15000 2
    -- 0.4998 and 0.5001: p 3.
    ∷ line (alone 3) 1666 0
    ∷ line (alone 3) 1667 1
    -- 617.28 and 617.5.
    ∷ line (alone 128) 48225 617
    ∷ line (alone 100) 61750 618
    -- The ends.
    ∷ line (alone 10000) 1000000 1000000
    ∷ line (alone 10000) 1 1
    ∷ line (alone 4999) 1 0
    ∷ line (alone 10000) 0 0
    -- Each unit is rounded, then they are added: three times half a cent, three times 0.4999.
    ∷ line (simple 2 thrice) 5000 3
    ∷ line (simple 2 thrice) 4999 0
    -- Models 1 and 2: every unit.
    ∷ line (simple 1 (five 0 0 0 0 0)) 10000 11111
    ∷ line (simple 2 (five 0 0 0 0 0)) 10000 11111
    -- Models 3 to 5: status 1 and 4.
    ∷ line (simple 3 (five 0 1 2 3 4)) 10000 10010
    ∷ line (simple 4 (five 0 1 2 3 4)) 10000 10010
    ∷ line (simple 5 (five 0 1 2 3 4)) 10000 10010
    ∷ line (simple 3 (five 4 0 1 3 2)) 10000 101
    ∷ line (simple 4 (five 1 1 1 1 0)) 10000 1111
    ∷ line (simple 5 (five 0 0 0 0 0)) 10000 0
    -- Read with b 0.
    ∷ line (simple 3 thrice) 10000 0
    ∷ line (simple 3 (five 3 2 3 2 3)) 10000 0
    ∷ []

fees-right : map fees_of_line lines ≡ map cents_of_line lines
unfolding lines simple alone five thrice unit_bytes joined sheet_bytes in_bytes unit_row rows sheet_of pays month_fees
fees-right = refl

-- Sheets written field by field, and changed byte by byte, for computed cases; and what they give by the rules of each archive version.
use Rattle.std.specs.Prelude.{List, [], ◌∷◌, ◌++◌, ℕ, length, set, replicate, Ok, Err}
use Rattle.sheet.specs.Refusals.{Outcome, place_of}
use Rattle.sheet.specs.declared.rule_set.RuleSet.{RuleSet}
use Rattle.sheet.specs.declared.rule_set.RuleSet.TheVariants.{Archive1, Archive2, Archive3}
use Rattle.sheet.specs.Layout.{bytes16, bytes32, in_bytes}

abbrev pub zeros : ℕ → List ℕ
zeros n = replicate n 0

-- the bytes with x at place `at`
abbrev pub put : (at x : ℕ) → List ℕ → List ℕ
put at x bytes = set bytes at x

-- a row in layout order
unfoldable pub unit_bytes : (id status class KF p s q b litres persons : ℕ) → List ℕ
unit_bytes id status class KF p s q b litres persons =
    bytes32 id ++ (status ∷ class ∷ bytes16 KF) ++ in_bytes (p ∷ s ∷ q ∷ b ∷ litres ∷ []) ++ bytes16 persons ++ zeros 2

unfoldable pub joined : List (List ℕ) → List ℕ
joined [] = []
joined (row ∷ rows) = row ++ joined rows

-- a sheet in layout order, h1 .. h6 as `readings`
unfoldable pub sheet_bytes : (month model source v z y f t M price : ℕ) → (readings : List ℕ) → (units : List (List ℕ)) → List ℕ
sheet_bytes month model source v z y f t M price readings units =
    (72 ∷ 67 ∷ 83 ∷ 0 ∷ bytes16 1)
    ++ (month ∷ model ∷ bytes16 (length units))
    ++ (source ∷ v ∷ z ∷ y ∷ f ∷ t ∷ [])
    ++ in_bytes (M ∷ price ∷ readings)
    ++ joined units

-- a unit with a reading and no water
abbrev pub heated : (id status KF p b : ℕ) → List ℕ
heated id status KF p b = unit_bytes id status 0 KF p 0 0 b 0 0

-- a sheet of month 1 as case A's of document 01: model 3, no hot water, v 30, z 20, M 1,000,000, price 10,000
abbrev pub sheet_a : (f : ℕ) → List (List ℕ) → List ℕ
sheet_a f units = sheet_bytes 1 3 0 30 20 0 f 0 1000000 10000 (zeros 6) units

abbrev pub units_a : (b₁ b₂ b₃ : ℕ) → List (List ℕ)
units_a b₁ b₂ b₃ = heated 11 0 1000 500 b₁ ∷ heated 12 0 1000 500 b₂ ∷ heated 13 0 1000 1000 b₃ ∷ []

-- case A
abbrev pub case_a : List ℕ
case_a = sheet_a 30 (units_a 100 300 600)

-- of any model, M 1,000, without hot water
unfoldable pub simple : (model : ℕ) → List (List ℕ) → List ℕ
simple model units = sheet_bytes 1 model 0 0 0 0 0 0 1000 10000 (zeros 6) units

-- a unit with p and q alone
abbrev pub sized : (id p q : ℕ) → List ℕ
sized id p q = unit_bytes id 0 0 1000 p 0 q 0 0 0

-- model 2, p by 2, 3 and q by 1, 3
unfoldable pub good : List ℕ
good = simple 2 (sized 11 400 100 ∷ sized 12 600 300 ∷ [])

-- the second row with the first one's id
abbrev pub order : List ℕ
order = put 80 11 good

-- p 500 and 1,000, q 200 and 100, with statuses and readings
abbrev pub pair : (status₁ b₁ status₂ b₂ : ℕ) → List (List ℕ)
pair status₁ b₁ status₂ b₂ = unit_bytes 11 status₁ 0 1000 500 0 200 b₁ 0 0 ∷ unit_bytes 12 status₂ 0 1000 1000 0 100 b₂ 0 0 ∷ []

-- model 2, M 1,000, of which h1 is hot water, with no unit that takes any
abbrev pub watered : (h1 : ℕ) → List ℕ
watered h1 = sheet_bytes 1 2 1 0 0 0 0 0 1000 10000 (h1 ∷ zeros 5) (pair 0 0 0 0)

-- Refused by 8 to 12: H 1,001 of M 1,000; H by no litres or persons; model 3 with nobody read; model 5 with C 1,001 of M 1,000; model 3 with f 31 and p 500 of 1,500 without a device.
unfoldable pub unsettled : List (List ℕ)
unsettled =
    watered 1001
    ∷ watered 600
    ∷ sheet_a 30 (pair 2 0 2 0)
    ∷ sheet_bytes 1 5 0 0 0 0 30 0 1000 10000 (zeros 6) (pair 0 1001 0 0)
    ∷ sheet_a 31 (pair 1 0 0 300)
    ∷ []

-- the place that an answer returns
abbrev pub place_by : Outcome → ℕ
place_by (Ok tt) = 0
place_by (Err r) = place_of r

-- without the limits of model 4 by version 1, with them by the later ones (2026-01)
abbrev pub by_limits : {A : Type 0} → RuleSet → (without limited : A) → A
by_limits Archive1 without limited = without
by_limits Archive2 without limited = limited
by_limits Archive3 without limited = limited

-- ties to the earlier item by versions 1 and 2, to the larger weight by version 3 (2026-06)
abbrev pub by_ties : {A : Type 0} → RuleSet → (earlier larger : A) → A
by_ties Archive1 earlier larger = earlier
by_ties Archive2 earlier larger = earlier
by_ties Archive3 earlier larger = larger

-- What the steps take from the sheet alone: sums and weights (document 01, "Steps of a month"). The document's symbols stand beside the names.
use Rattle.std.specs.Prelude.{Bool, not, ◌&&◌, ◌||◌, List, [], ◌∷◌, map, ℕ, ◌+◌, ◌*◌, ◌-◌, min, max, leb, ltb, eqb, length, if◌then◌else◌}
use Rattle.apportion.specs.Shares.{sum}
use Rattle.sheet.specs.Tests.{all}
use Rattle.sheet.specs.declared.rule_set.RuleSet.{RuleSet}
use Rattle.sheet.specs.RuleSets.{limits_risers}
use Rattle.sheet.specs.Layout.{UnitRow, Sheet}

-- ---- lists of units
-- the units that pass a test, in their order
abbrev pub those : (UnitRow → Bool) → List UnitRow → List UnitRow
those test [] = []
those test (u ∷ us) = if test u then u ∷ those test us else those test us

-- the sum of a field
abbrev pub sum_of : (UnitRow → ℕ) → List UnitRow → ℕ
sum_of field us = sum (map field us)

-- status 0
abbrev pub is_read : UnitRow → Bool
is_read u = eqb u.status 0

abbrev pub read_units : Sheet → List UnitRow
read_units s = those is_read s.units

abbrev pub unread_units : Sheet → List UnitRow
unread_units s = those (λ u. not (is_read u)) s.units

-- ---- step 2
-- model 5 with every status 0
unfoldable pub all_metered : Sheet → Bool
all_metered s = eqb s.model 5 && all (map is_read s.units)

-- C
unfoldable pub metered_sum : Sheet → ℕ
metered_sum s = sum_of (λ u. u.reading) s.units

-- ---- step 3 (articles 8 (4), 10 (6)): models 3 to 5, step 2's exception apart
unfoldable pub has_pool : Sheet → Bool
has_pool s = leb 3 s.model && not (all_metered s)

-- P
unfoldable pub total_area : Sheet → ℕ
total_area s = sum_of (λ u. u.heated_area) s.units

-- counts as without a device: status 1 and 4
abbrev pub has_no_device : UnitRow → Bool
has_no_device u = eqb u.status 1 || eqb u.status 4

-- a unit that is not read: p × KF × f (status 1, 4) or p × 10,000 (status 2, 3)
unfoldable pub unread_weight : Sheet → UnitRow → ℕ
unread_weight s u =
    if has_no_device u then u.heated_area * u.location_factor * s.unmetered_factor
    else u.heated_area * 10000

unfoldable pub unread_weights : Sheet → List ℕ
unread_weights s = map (unread_weight s) (unread_units s)

-- the metered pool (document 01: the rest): 10,000 × P less these
unfoldable pub pool_weight : Sheet → ℕ
pool_weight s = 10000 * total_area s - sum (unread_weights s)

-- ---- step 4, over the read units
-- B
unfoldable pub reading_sum : Sheet → ℕ
reading_sum s = sum_of (λ u. u.reading) (read_units s)

-- A
unfoldable pub read_area : Sheet → ℕ
read_area s = sum_of (λ u. u.heated_area) (read_units s)

-- S
unfoldable pub read_surface : Sheet → ℕ
read_surface s = sum_of (λ u. u.riser_surface) (read_units s)

-- r = (100 − v) × b × whole + v × own × B, by the unit's own p or s and the whole, A or S
abbrev pub r_by : Sheet → UnitRow → (own whole : ℕ) → ℕ
r_by s u own whole = (100 - s.base_percent) * u.reading * whole + s.base_percent * own * reading_sum s

-- r lowered to 300 × base, raised to 40 × base (articles 8 (6), (7) and 9 (6), (7))
abbrev pub limited : (base r : ℕ) → ℕ
limited base r = max (40 * base) (min (300 * base) r)

-- model 3: r by p and A, limited by p × B, then × KF
unfoldable pub area_weight : Sheet → UnitRow → ℕ
area_weight s u =
    let r = r_by s u u.heated_area (read_area s) in
    limited (u.heated_area * reading_sum s) r * u.location_factor

-- r limited where the rules limit risers; with s = 0 it stays (2026-01)
abbrev pub riser_limited : RuleSet → (surface base r : ℕ) → ℕ
riser_limited rules surface base r = if limits_risers rules && ltb 0 surface then limited base r else r

-- model 4: r by s and S, limited by s × B as the rules say, then × KF
unfoldable pub surface_weight : RuleSet → Sheet → UnitRow → ℕ
surface_weight rules s u =
    let r = r_by s u u.riser_surface (read_surface s) in
    riser_limited rules u.riser_surface (u.riser_surface * reading_sum s) r * u.location_factor

-- models 3 and 4 as above, model 5 b; if B = 0: p × KF, for model 4 s × KF (own)
unfoldable pub read_weight : RuleSet → Sheet → UnitRow → ℕ
read_weight rules s u =
    if eqb (reading_sum s) 0 then (if eqb s.model 4 then u.riser_surface * u.location_factor else u.heated_area * u.location_factor)
    else if eqb s.model 3 then area_weight s u
    else if eqb s.model 4 then surface_weight rules s u
    else u.reading

unfoldable pub read_weights : RuleSet → Sheet → List ℕ
read_weights rules s = map (read_weight rules s) (read_units s)

-- ---- step 6
abbrev pub of_class : ℕ → Sheet → List UnitRow
of_class c s = those (λ u. eqb u.water_class c) s.units

-- n1, n2
unfoldable pub units_of_class : ℕ → Sheet → ℕ
units_of_class c s = length (of_class c s)

-- L: litres of class 1
unfoldable pub litres_of_class1 : Sheet → ℕ
litres_of_class1 s = sum_of (λ u. u.litres) (of_class 1 s)

-- N2: persons of class 2
unfoldable pub persons_of_class2 : Sheet → ℕ
persons_of_class2 s = sum_of (λ u. u.persons) (of_class 2 s)

-- units' water (article 12): n1 × litres × N2 or n2 × persons × L; with one class only, litres or persons alone
unfoldable pub water_weight : Sheet → UnitRow → ℕ
water_weight s u =
    if eqb u.water_class 1 then (if eqb (units_of_class 2 s) 0 then u.litres else units_of_class 1 s * u.litres * persons_of_class2 s)
    else if eqb u.water_class 2 then (if eqb (units_of_class 1 s) 0 then u.persons else units_of_class 2 s * u.persons * litres_of_class1 s)
    else 0

-- common water (article 13): persons of classes 1 and 2
abbrev pub common_water_weight : UnitRow → ℕ
common_water_weight u = if eqb u.water_class 1 || eqb u.water_class 2 then u.persons else 0

-- A sheet that no refusal meets has what specs/Accepted.antt lists, and its divisions have weights. Assumes nothing.
use Rattle.std.specs.Prelude.{if◌then◌else◌, Ok}
use mathlib.Core.Path.{◌≡◌, refl}
use mathlib.Core.Bool.{Bool, true, false, ◌&&◌}
use mathlib.Core.Logic.{◌⊎◌, inl, inr}
use mathlib.Core.List.{List, [], ◌∷◌, ◌++◌, map}
use Prim.Native.Nat.{ℕ, ◌+◌, ◌*◌, ◌-◌, ◌≤◌, ◌<◌}
use native.Mathlib.Omega.{arith}
use native.Mathlib.Nat.{mul-le-mul_left, mul-le-mul_right}
use native.Mathlib.Decide.{dec_lt}
use borrow.Author.Tests.{ltb-false, eqb-true, eqb-false, lt-ltb, le-leb, eq-eqb, ne_eqb}
use lib.Dec.{ltb, leb, eqb}
use lib.ListN.{length}
use Rattle.apportion.specs.Shares.{sum}
use Rattle.sheet.specs.Tests.{Each}
use Rattle.sheet.specs.Refusals.{first_refusal}
use Rattle.sheet.specs.declared.rule_set.RuleSet.{RuleSet}
use Rattle.sheet.specs.RuleSets.{limits_risers}
use Rattle.sheet.specs.Layout.{UnitRow, Sheet, sheet_of}
use Rattle.sheet.specs.Check.{sheet_rules, checked}
use Rattle.sheet.specs.Inner.Fits.{UnitFits, Fits}
use Rattle.sheet.proofs.Rules.{or_else, first_of_both}
use Rattle.sheet.proofs.Passed.{none-holds, holds-none, none_of-both, none_of}
use Rattle.sheet.proofs.Fits.{fits}
use Rattle.month.specs.Weights.{those, sum_of, is_read, read_units, all_metered, metered_sum, has_pool, total_area, unread_weights, pool_weight, r_by, limited, riser_limited, area_weight, surface_weight, read_weight, read_weights}
use Rattle.month.specs.Weights.{reading_sum, read_area, read_surface, units_of_class, litres_of_class1, persons_of_class2, water_weight, common_water_weight}
use Rattle.month.specs.Month.{hot_water_wh, space_heat_wh, zero_water_divisor, zero_divisor, month_rules, settle_rules}
use Rattle.month.specs.Inner.Accepted.{CheckedSheet, AcceptedSheet}
use Rattle.month.proofs.Lists.{decided, sum_append}

pub and_false : (a b : Bool) → (a && b) ≡ false → a ≡ true → b ≡ false
and_false true b e h = e
and_false false b e h = absurd (let z : ◌≡◌ {A = ℕ} 0 1 = cc in omega arith)

-- ---- 1 to 7, alone or in an archive record; 8 to 12; all
pub fits-checked : {perUnit : ℕ} {bytes : List ℕ} → Fits perUnit bytes → CheckedSheet (sheet_of bytes)
unfolding sheet_of
fits-checked f = record { header = f.header; reading-count = refl; unit_count_lem = f.units_length; units = f.units }

pub settle-in_order : (bytes : List ℕ) → first_refusal (settle_rules bytes) ≡ or_else (checked 32 bytes) (first_refusal (month_rules (sheet_of bytes)))
unfolding settle_rules checked
settle-in_order bytes = first_of_both (sheet_rules 32 bytes) (month_rules (sheet_of bytes))

pub month-accepted : (s : Sheet) → CheckedSheet s → first_refusal (month_rules s) ≡ Ok tt → AcceptedSheet s
unfolding month_rules
month-accepted s c e =
    let m = none-holds (month_rules s) e in
    record {
      checked-sheet = c;
      water-fits = ltb-false s.shared_meter (hot_water_wh s) m.0;
      divisors = m.1.0;
      some_read = λ h. omega (arith, eqb-false (length (read_units s)) 0 (and_false (leb 3 s.model) _ m.1.1.0 (le-leb 3 s.model h)));
      meters_fit = λ h. ltb-false (space_heat_wh s) (metered_sum s) (and_false (all_metered s) _ m.1.1.1.0 h);
      pool-fits = λ h. ltb-false (10000 * total_area s) (sum (unread_weights s)) (and_false (has_pool s) _ m.1.1.1.1.0 h);
    }

pub accepted : (bytes : List ℕ) → first_refusal (settle_rules bytes) ≡ Ok tt → AcceptedSheet (sheet_of bytes)
unfolding settle_rules checked
accepted bytes e =
    let s = sheet_of bytes in
    let both = none_of-both (sheet_rules 32 bytes) (month_rules s) (none-holds _ e) in
    month-accepted s (fits-checked (fits 32 bytes (holds-none (sheet_rules 32 bytes) both.0))) (holds-none (month_rules s) both.1)

-- ---- sums over units
pub each-those : (P : UnitRow → Type 0) (test : UnitRow → Bool) (us : List UnitRow) → Each P us → Each P (those test us)
each-those P test [] h = tt
each-those P test (u ∷ us) h = elim (decided (test u)) [ inl e ↦ rw e (h.0, each-those P test us h.1) | inr e ↦ rw e (each-those P test us h.1) ]

pub sum-those : (test : UnitRow → Bool) (f : UnitRow → ℕ) (us : List UnitRow) → sum_of f (those test us) ≡ sum_of (λ u. if test u then f u else 0) us
sum-those test f [] = refl
sum-those test f (u ∷ us) = elim (decided (test u)) [ inl e ↦ rw e (omega (arith, sum-those test f us)) | inr e ↦ rw e (omega (arith, sum-those test f us)) ]

-- x ≤ x × k
grows : (x k : ℕ) → 1 ≤ k → x ≤ x * k
grows x k h = omega (arith, mul-le-mul_left x h)

-- x is reached by r limited, or by r itself
limit_reaches : (limits : Bool) (x base r : ℕ) → x ≤ base → (limits ≡ true) ⊎ (x ≤ r) → x ≤ (if limits && ltb 0 x then limited base r else r)
limit_reaches true x base r h k = elim (dec_lt 0 x) [ yes p ↦ rw (lt-ltb 0 x p) (omega arith) | no p ↦ omega arith ]
limit_reaches false x base r h (inr k) = k
limit_reaches false x base r h (inl e) = absurd (let z : ◌≡◌ {A = ℕ} 0 1 = cc in omega arith)

module _ (s : Sheet) where
  -- a sum that reaches another, unit by unit
  sum_mono : (f g : UnitRow → ℕ) → ((u : UnitRow) → UnitFits s u → f u ≤ g u) → (us : List UnitRow) → Each (UnitFits s) us → sum_of f us ≤ sum_of g us
  sum_mono f g le [] h = omega arith
  sum_mono f g le (u ∷ us) h = omega (arith, le u h.0, sum_mono f g le us h.1)

  count-area : (us : List UnitRow) → Each (UnitFits s) us → length us ≤ sum_of (λ u. u.heated_area) us
  count-area [] h = omega arith
  count-area (u ∷ us) h = omega (arith, h.0.heated_area_low, count-area us h.1)

  -- P is above 0
  pub checked-area : CheckedSheet s → 0 < sum_of (λ u. u.heated_area) s.units
  checked-area c = omega (arith, count-area s.units c.units, c.unit_count_lem, c.header.unit_count_low)

module _ (s : Sheet) (a : AcceptedSheet s) where
  -- ---- 9, taken apart
  -- step 3, model 1: by q
  pub load-positive : s.model ≡ 1 → 0 < sum (map (λ u. u.heat_load) s.units)
  unfolding zero_divisor
  load-positive e = omega (arith, eqb-false (sum_of (λ u. u.heat_load) s.units) 0 (and_false (eqb s.model 1) _ (none_of _ a.divisors).1.0 (eq-eqb s.model 1 e)))

  surface-positive : s.model ≡ 4 → 0 < read_surface s
  unfolding zero_divisor
  surface-positive e = omega (arith, eqb-false (read_surface s) 0 (and_false (eqb s.model 4) _ (none_of _ a.divisors).1.1.0 (eq-eqb s.model 4 e)))

  -- ---- steps 3 and 5: by p, and with the pool
  pub area-positive : 0 < sum (map (λ u. u.heated_area) s.units)
  area-positive = checked-area s a.checked-sheet

  pub pool-positive : 0 < sum (unread_weights s ++ pool_weight s ∷ [])
  unfolding pool_weight total_area
  pool-positive = omega (arith, sum_append (unread_weights s) (pool_weight s ∷ []), area-positive)

  -- ---- step 4: each weight is at least its unit's p, s or b, and these do not all vanish
  read_fit : Each (UnitFits s) (read_units s)
  read_fit = each-those (UnitFits s) is_read s.units a.checked-sheet.units

  read_area_lem : 3 ≤ s.model → 0 < sum_of (λ u. u.heated_area) (read_units s)
  read_area_lem h = omega (arith, count-area s (read_units s) read_fit, a.some_read h)

  area_le : 0 < reading_sum s → (u : UnitRow) → UnitFits s u → u.heated_area ≤ area_weight s u
  unfolding area_weight
  area_le b u z =
      let base = u.heated_area * reading_sum s in
      let r = limited base (r_by s u u.heated_area (read_area s)) in
      omega (arith, grows u.heated_area (reading_sum s) b, grows r u.location_factor z.location_factor_low)

  module _ (rules : RuleSet) where
    surface_le : 0 < reading_sum s → (limits_risers rules ≡ true) ⊎ (0 < s.base_percent) → (u : UnitRow) → UnitFits s u → u.riser_surface ≤ surface_weight rules s u
    unfolding surface_weight
    surface_le b h u z =
        let x = s.base_percent * u.riser_surface in
        let r = r_by s u u.riser_surface (read_surface s) in
        let base = u.riser_surface * reading_sum s in
        let reaches : (limits_risers rules ≡ true) ⊎ (u.riser_surface ≤ r) = elim h [ inl l ↦ inl l | inr v ↦ inr (omega (arith, mul-le-mul_right u.riser_surface v, grows x (reading_sum s) b)) ] in
        omega (
          arith,
          limit_reaches (limits_risers rules) u.riser_surface base r (grows u.riser_surface (reading_sum s) b) reaches,
          grows (riser_limited rules u.riser_surface base r) u.location_factor z.location_factor_low,
        )

    reading_le : limits_risers rules ≡ false → 0 < read_surface s → s.base_percent ≡ 0 → (u : UnitRow) → UnitFits s u → u.reading ≤ surface_weight rules s u
    unfolding surface_weight
    reading_le l b v u z =
        let x = (100 - s.base_percent) * u.reading in
        let r = r_by s u u.riser_surface (read_surface s) in
        let h : 1 ≤ 100 - s.base_percent = omega arith in
        rw l (omega (arith, mul-le-mul_right u.reading h, grows x (read_surface s) b, grows r u.location_factor z.location_factor_low))

    pub read-positive : 3 ≤ s.model → 0 < sum (read_weights rules s)
    unfolding read_weights read_weight read_surface reading_sum
    read-positive m = go (eqb (reading_sum s) 0) refl (eqb s.model 3) refl (eqb s.model 4) refl
      where
        at_least : (f : UnitRow → ℕ) → ((u : UnitRow) → UnitFits s u → f u ≤ read_weight rules s u) → 0 < sum_of f (read_units s) → 0 < sum (map (read_weight rules s) (read_units s))
        at_least f le h = omega (arith, sum_mono s f (read_weight rules s) le (read_units s) read_fit)

        some : eqb (reading_sum s) 0 ≡ false → 0 < reading_sum s
        some e = omega (arith, eqb-false (reading_sum s) 0 e)

        go : (none : Bool) → eqb (reading_sum s) 0 ≡ none → (three : Bool) → eqb s.model 3 ≡ three → (four : Bool) → eqb s.model 4 ≡ four
            → 0 < sum (map (read_weight rules s) (read_units s))
        go true e three p true q = at_least (λ u. u.riser_surface) (λ u z. rw (e, q) (grows u.riser_surface u.location_factor z.location_factor_low)) (surface-positive (eqb-true s.model 4 q))
        go true e three p false q = at_least (λ u. u.heated_area) (λ u z. rw (e, q) (grows u.heated_area u.location_factor z.location_factor_low)) (read_area_lem m)
        go false e true p four q = at_least (λ u. u.heated_area) (λ u z. rw (e, p) (area_le (some e) u z)) (read_area_lem m)
        go false e false p true q =
            let s-positive = surface-positive (eqb-true s.model 4 q) in
            let by-surface : (limits_risers rules ≡ true) ⊎ (0 < s.base_percent) → 0 < sum (map (read_weight rules s) (read_units s)) =
            λ h. at_least (λ u. u.riser_surface) (λ u z. rw (e, p, q) (surface_le (some e) h u z)) s-positive in
            elim (decided (limits_risers rules)) [
              | inl l ↦ by-surface (inl l)
              | inr l ↦ elim (dec_lt 0 s.base_percent) [
                | yes v ↦ by-surface (inr v)
                | no v ↦ at_least (λ u. u.reading) (λ u z. rw (e, p, q) (reading_le l s-positive (omega arith) u z)) (some e)
              ]
            ]
        go false e false p false q = at_least (λ u. u.reading) (λ u z. rw (e, p, q) (omega arith)) (some e)

  -- ---- step 6
  module _ (w : 0 < hot_water_wh s) where
    water_tests : zero_water_divisor s ≡ false
    unfolding zero_divisor
    water_tests = and_false (ltb 0 (hot_water_wh s)) _ (none_of _ a.divisors).0 (lt-ltb 0 (hot_water_wh s) w)

    some-class : 0 < units_of_class 1 s + units_of_class 2 s
    unfolding zero_water_divisor
    some-class = omega (arith, eqb-false (units_of_class 1 s + units_of_class 2 s) 0 (none_of _ water_tests).0)

    some-litres : 0 < units_of_class 1 s → 0 < litres_of_class1 s
    unfolding zero_water_divisor
    some-litres h = omega (arith, eqb-false (litres_of_class1 s) 0 (and_false (ltb 0 (units_of_class 1 s)) _ (none_of _ water_tests).1.0 (lt-ltb 0 (units_of_class 1 s) h)))

    some-persons : 0 < units_of_class 2 s → 0 < persons_of_class2 s
    unfolding zero_water_divisor
    some-persons h = omega (arith, eqb-false (persons_of_class2 s) 0 (and_false (ltb 0 (units_of_class 2 s)) _ (none_of _ water_tests).1.1.0 (lt-ltb 0 (units_of_class 2 s) h)))

    pub common_water-positive : 0 < s.common_water_percent → 0 < sum (map common_water_weight s.units)
    unfolding zero_water_divisor
    common_water-positive h = omega (arith, eqb-false (sum_of common_water_weight s.units) 0 (and_false (ltb 0 s.common_water_percent) _ (none_of _ water_tests).1.1.1.0 (lt-ltb 0 s.common_water_percent h)))

    -- the weight of a unit of class 1 is at least its litres
    litres_le : 0 < units_of_class 1 s → (u : UnitRow) → UnitFits s u → (if eqb u.water_class 1 then u.litres else 0) ≤ water_weight s u
    unfolding water_weight
    litres_le h u z = elim (decided (eqb u.water_class 1)) [
      | inl e ↦ elim (decided (eqb (units_of_class 2 s) 0)) [
        | inl f ↦ rw (e, f) (omega arith)
        | inr f ↦
            let p = some-persons (omega (arith, eqb-false (units_of_class 2 s) 0 f)) in
            rw (e, f) (omega (arith, mul-le-mul_right u.litres h, grows (units_of_class 1 s * u.litres) (persons_of_class2 s) p))
      ]
      | inr e ↦ rw e (omega arith)
    ]

    -- without class 1, the weight of a unit of class 2 is its persons
    persons_le : units_of_class 1 s ≡ 0 → (u : UnitRow) → UnitFits s u → (if eqb u.water_class 2 then u.persons else 0) ≤ water_weight s u
    unfolding water_weight
    persons_le h u z = elim (decided (eqb u.water_class 2)) [
      | inl f ↦
          let e : eqb u.water_class 1 ≡ false = ne_eqb u.water_class 1 (λ g. omega (arith, eqb-true u.water_class 2 f)) in
          rw (e, f, eq-eqb (units_of_class 1 s) 0 h) (omega arith)
      | inr f ↦ rw f (omega arith)
    ]

    pub water-positive : 0 < sum (map (water_weight s) s.units)
    unfolding litres_of_class1 persons_of_class2
    water-positive = elim (dec_lt 0 (units_of_class 1 s)) [
      | yes h ↦ omega (
        arith,
        some-litres h,
        sum-those (λ u. eqb u.water_class 1) (λ u. u.litres) s.units,
        sum_mono s (λ u. if eqb u.water_class 1 then u.litres else 0) (water_weight s) (litres_le h) s.units a.checked-sheet.units,
      )
      | no h ↦ omega (
        arith,
        some-persons (omega (arith, some-class)),
        sum-those (λ u. eqb u.water_class 2) (λ u. u.persons) s.units,
        sum_mono s (λ u. if eqb u.water_class 2 then u.persons else 0) (water_weight s) (persons_le (omega arith)) s.units a.checked-sheet.units,
      )
    ]

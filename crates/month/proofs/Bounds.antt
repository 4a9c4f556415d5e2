-- The bounds of specs/Inner/Bounds.antt, for a sheet that passes 1 to 7. Assumes nothing.
use Rattle.std.specs.Prelude.{if◌then◌else◌}
use mathlib.Core.Path.{◌≡◌}
use mathlib.Core.Bool.{Bool, true, false, not, ◌&&◌, ◌||◌}
use mathlib.Core.Logic.{inl, inr}
use mathlib.Core.List.{List, [], ◌∷◌}
use Prim.Native.Nat.{ℕ, zero, suc, ◌+◌, ◌*◌, ◌-◌, ◌≤◌, ◌<◌}
use native.Mathlib.Omega.{arith}
use native.Mathlib.Nat.{mul-le-mul}
use borrow.Author.Tests.{eqb-true}
use lib.Dec.{ltb, eqb}
use lib.ListN.{length, get_or}
use Rattle.apportion.specs.Shares.{sum}
use Rattle.sheet.specs.declared.rule_set.RuleSet.{RuleSet}
use Rattle.sheet.specs.RuleSets.{limits_risers}
use Rattle.sheet.specs.Layout.{UnitRow, Sheet}
use Rattle.sheet.specs.Inner.Fits.{UnitFits}
use Rattle.sheet.specs.Tests.{Each}
use Rattle.month.specs.Weights.{those, sum_of, is_read, metered_sum, total_area, has_no_device, unread_weight, unread_weights, pool_weight, reading_sum, read_area, read_surface, r_by, limited, area_weight, surface_weight, read_weight, read_weights, units_of_class, litres_of_class1, persons_of_class2, water_weight, common_water_weight}
use Rattle.month.specs.Month.{bill_cents}
use Rattle.month.specs.Inner.Accepted.{CheckedSheet}
use Rattle.month.specs.Inner.Bounds.{SumBounds, WeightBounds}
use Rattle.month.proofs.Lists.{decided, sum_append}
use Rattle.month.proofs.Accepted.{each-those}

-- ---- sums
module _ (P : UnitRow → Type 0) (f : UnitRow → ℕ) (b : ℕ) (le : (u : UnitRow) → P u → f u ≤ b) where
  -- at most n units, each of which adds at most b
  pub sum-at_most : (n : ℕ) (us : List UnitRow) → Each P us → length us ≤ n → sum_of f us ≤ n * b
  sum-at_most n [] h l = omega arith
  sum-at_most zero (u ∷ us) h l = absurd (omega arith)
  sum-at_most (suc n) (u ∷ us) h l = omega (arith, le u h.0, sum-at_most n us h.1 (omega arith))

pub those-fewer : (p : UnitRow → Bool) (us : List UnitRow) → length (those p us) ≤ length us
those-fewer p [] = omega arith
those-fewer p (u ∷ us) = elim (decided (p u)) [ inl e ↦ rw e (omega (arith, those-fewer p us)) | inr e ↦ rw e (omega (arith, those-fewer p us)) ]

sum_of-readings : (n b : ℕ) (xs : List ℕ) → length xs ≡ n → ((k : ℕ) → k < n → get_or xs k 0 ≤ b) → sum xs ≤ n * b
sum_of-readings n b [] e h = omega arith
sum_of-readings zero b (x ∷ xs) e h = absurd (omega arith)
sum_of-readings (suc n) b (x ∷ xs) e h = omega (arith, h 0 (omega arith), sum_of-readings n b xs (omega arith) (λ k l. h (suc k) (omega arith)))

pub three_le : {a b c x y z : ℕ} → a ≤ x → b ≤ y → c ≤ z → a * b * c ≤ x * y * z
three_le h g f = mul-le-mul (mul-le-mul h g) f

-- r, limited or not
limit_le : (limits : Bool) (base r : ℕ) → base ≤ 80000000000 → r ≤ 24000000000000 → (if limits then limited base r else r) ≤ 24000000000000
limit_le true base r h g = omega arith
limit_le false base r h g = g

module _ (s : Sheet) (c : CheckedSheet s) where
  few : length s.units ≤ 160
  few = omega (arith, c.unit_count_lem, c.header.unit_count)

  -- over all units, and over those that pass a test
  over-all : (f : UnitRow → ℕ) (b : ℕ) → ((u : UnitRow) → UnitFits s u → f u ≤ b) → sum_of f s.units ≤ 160 * b
  over-all f b le = sum-at_most (UnitFits s) f b le 160 s.units c.units few

  over-those : (p : UnitRow → Bool) (f : UnitRow → ℕ) (b : ℕ) → ((u : UnitRow) → UnitFits s u → f u ≤ b) → sum_of f (those p s.units) ≤ 160 * b
  over-those p f b le =
      sum-at_most (UnitFits s) f b le 160 (those p s.units) (each-those (UnitFits s) p s.units c.units) (omega (arith, those-fewer p s.units, few))

  common_water_le : (u : UnitRow) → UnitFits s u → common_water_weight u ≤ 50
  common_water_le u h = elim (decided (eqb u.water_class 1 || eqb u.water_class 2)) [ inl e ↦ rw e h.persons | inr e ↦ rw e (omega arith) ]

  pub sum_bounds : SumBounds s
  unfolding total_area read_surface reading_sum metered_sum units_of_class litres_of_class1 persons_of_class2 bill_cents
  sum_bounds =
      let loss : (100 + s.loss_factor) * 54 ≤ 16200 = omega (arith, c.header.loss_factor_high) in
      let product : s.shared_meter * s.price ≤ 400000000000000 = mul-le-mul c.header.shared_meter c.header.price in
      record {
        total_area_lem = over-all (λ u. u.heated_area) 10000 (λ u h. h.heated_area);
        heat_loads = over-all (λ u. u.heat_load) 100000 (λ u h. h.heat_load);
        read_surface_lem = over-those is_read (λ u. u.riser_surface) 10000 (λ u h. h.riser_surface);
        impulses = λ m. over-those is_read (λ u. u.reading) 50000 (λ u h. h.impulses m);
        metered = over-all (λ u. u.reading) 25000000 (λ u h. h.reading);
        classes = λ k. omega (arith, those-fewer (λ u. eqb u.water_class k) s.units, few);
        litres = over-those (λ u. eqb u.water_class 1) (λ u. u.litres) 1000000 (λ u h. h.litres);
        persons_of_class_2 = over-those (λ u. eqb u.water_class 2) (λ u. u.persons) 50 (λ u h. h.persons);
        persons = over-all common_water_weight 50 common_water_le;
        litres-heated = λ e. mul-le-mul loss (c.header.water_litres e);
        summer-readings = sum_of-readings 6 4000000000 s.water_readings c.reading-count c.header.water_readings;
        price-product = product;
        bill = omega arith;
      }

  -- ---- the weights of a unit
  module _ (u : UnitRow) (h : UnitFits s u) where
    unread_le : unread_weight s u ≤ 350000000
    unfolding unread_weight
    unread_le = elim (decided (has_no_device u)) [
      | inl e ↦ rw e (three_le h.heated_area h.location_factor c.header.unmetered_factor_high)
      | inr e ↦ rw e (omega (arith, h.heated_area))
    ]

    base_le : s.model ≤ 4 → {x : ℕ} → x ≤ 10000 → x * reading_sum s ≤ 80000000000
    base_le m le = mul-le-mul le (sum_bounds.impulses m)

    rest_percent : 100 - s.base_percent ≤ 100
    rest_percent = omega arith

    area_weight_le : s.model ≤ 4 → area_weight s u ≤ 24000000000000000
    unfolding area_weight
    area_weight_le m =
        let r : limited (u.heated_area * reading_sum s) (r_by s u u.heated_area (read_area s)) ≤ 24000000000000 = omega (arith, base_le m h.heated_area) in
        mul-le-mul r h.location_factor

    reading-by-surface : s.model ≤ 4 → (100 - s.base_percent) * u.reading * read_surface s ≤ 8000000000000
    reading-by-surface m = three_le rest_percent (h.impulses m) sum_bounds.read_surface_lem

    surface-by-readings : s.model ≤ 4 → s.base_percent * u.riser_surface * reading_sum s ≤ 4800000000000
    surface-by-readings m = three_le c.header.base_percent_high h.riser_surface (sum_bounds.impulses m)

    surface_weight_le : (rules : RuleSet) → s.model ≤ 4 → surface_weight rules s u ≤ 24000000000000000
    unfolding surface_weight
    surface_weight_le rules m =
        let r = r_by s u u.riser_surface (read_surface s) in
        let le : r ≤ 12800000000000 = omega (arith, reading-by-surface m, surface-by-readings m) in
        let base = u.riser_surface * reading_sum s in
        mul-le-mul (limit_le (limits_risers rules && ltb 0 u.riser_surface) base r (base_le m h.riser_surface) (omega arith)) h.location_factor

    read_le : (rules : RuleSet) → read_weight rules s u ≤ 24000000000000000
    unfolding read_weight
    read_le rules = elim (decided (eqb (reading_sum s) 0)) [
      | inl e ↦ elim (decided (eqb s.model 4)) [
        | inl q ↦ rw (e, q) (omega (arith, mul-le-mul h.riser_surface h.location_factor))
        | inr q ↦ rw (e, q) (omega (arith, mul-le-mul h.heated_area h.location_factor))
      ]
      | inr e ↦ elim (decided (eqb s.model 3)) [
        | inl p ↦ rw (e, p) (area_weight_le (omega (arith, eqb-true s.model 3 p)))
        | inr p ↦ elim (decided (eqb s.model 4)) [
          | inl q ↦ rw (e, p, q) (surface_weight_le rules (omega (arith, eqb-true s.model 4 q)))
          | inr q ↦ rw (e, p, q) (omega (arith, h.reading))
        ]
      ]
    ]

    by-litres : units_of_class 1 s * u.litres * persons_of_class2 s ≤ 1280000000000
    by-litres = three_le (sum_bounds.classes 1) h.litres sum_bounds.persons_of_class_2

    by-persons : units_of_class 2 s * u.persons * litres_of_class1 s ≤ 1280000000000
    by-persons = three_le (sum_bounds.classes 2) h.persons sum_bounds.litres

    water_le : water_weight s u ≤ 1280000000000
    unfolding water_weight
    water_le = elim (decided (eqb u.water_class 1)) [
      | inl e ↦ elim (decided (eqb (units_of_class 2 s) 0)) [ inl f ↦ rw (e, f) (omega (arith, h.litres)) | inr f ↦ rw (e, f) by-litres ]
      | inr e ↦ elim (decided (eqb u.water_class 2)) [
        | inl g ↦ elim (decided (eqb (units_of_class 1 s) 0)) [ inl f ↦ rw (e, g, f) (omega (arith, h.persons)) | inr f ↦ rw (e, g, f) by-persons ]
        | inr g ↦ rw (e, g) (omega arith)
      ]
    ]

  pub weight_bounds : (rules : RuleSet) → WeightBounds rules s
  unfolding unread_weights read_weights pool_weight
  weight_bounds rules =
      let unread : sum (unread_weights s) ≤ 56000000000 = over-those (λ u. not (is_read u)) (unread_weight s) 350000000 unread_le in
      record {
        unread = unread;
        pool = omega (arith, unread, sum_append (unread_weights s) (pool_weight s ∷ []), sum_bounds.total_area_lem);
        read = over-those is_read (read_weight rules s) 24000000000000000 (λ u h. read_le u h rules);
        water = over-all (water_weight s) 1280000000000 water_le;
      }

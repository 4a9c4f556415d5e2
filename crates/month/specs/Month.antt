-- A month settled: refusals 8 to 12, the bill, the statement (document 01, "Steps of a month", "Refused sheets and calls").
use Rattle.std.specs.Prelude.{Bool, ◌&&◌, List, [], ◌∷◌, ◌++◌, map, ℕ, zero, suc, ◌+◌, ◌*◌, ◌/◌, leb, ltb, eqb, length, take, drop, Ok, Err}
use Rattle.apportion.specs.Shares.{sum}
use Rattle.sheet.specs.Tests.{any}
use Rattle.sheet.specs.declared.refusal.Refusal.{Refusal}
use Rattle.sheet.specs.declared.refusal.Refusal.TheVariants.{HotWaterExceedsMeter, ZeroDivisor, NoReadings, MetersExceedHeat, UnmeteredExceedsHeat}
use Rattle.sheet.specs.Refusals.{Outcome, Rule, ◌⇒◌, first_refusal}
use Rattle.sheet.specs.declared.rule_set.RuleSet.{RuleSet}
use Rattle.sheet.specs.Layout.{Sheet, sheet_of}
use Rattle.sheet.specs.Check.{sheet_rules}
use Rattle.month.specs.Weights.{sum_of, read_units, all_metered, metered_sum, has_pool, total_area, unread_weights, read_surface, units_of_class, litres_of_class1, persons_of_class2, common_water_weight}
use Rattle.month.specs.Steps.{shares_under, whole_wh, hot_water, space_heat, heat_parts, energies_with, energies}

-- ---- 8 to 12
-- H and EG in whole Wh
unfoldable pub hot_water_wh : Sheet → ℕ
hot_water_wh s = hot_water whole_wh s

unfoldable pub space_heat_wh : Sheet → ℕ
space_heat_wh s = space_heat whole_wh s

-- 9, of step 6: n1 + n2 = 0, or n1 > 0 and L = 0, or n2 > 0 and N2 = 0, or y > 0 and no persons
unfoldable pub zero_water_divisor : Sheet → Bool
zero_water_divisor s = any (
    eqb (units_of_class 1 s + units_of_class 2 s) 0
    ∷ (ltb 0 (units_of_class 1 s) && eqb (litres_of_class1 s) 0)
    ∷ (ltb 0 (units_of_class 2 s) && eqb (persons_of_class2 s) 0)
    ∷ (ltb 0 s.common_water_percent && eqb (sum_of common_water_weight s.units) 0)
    ∷ []
    )

-- 9: that with H > 0; or, for any H, model 1 with all q 0 or model 4 with S = 0
unfoldable pub zero_divisor : Sheet → Bool
zero_divisor s = any (
    (ltb 0 (hot_water_wh s) && zero_water_divisor s)
    ∷ (eqb s.model 1 && eqb (sum_of (λ u. u.heat_load) s.units) 0)
    ∷ (eqb s.model 4 && eqb (read_surface s) 0)
    ∷ []
    )

unfoldable pub month_rules : Sheet → List Rule
month_rules s =
    (ltb s.shared_meter (hot_water_wh s) ⇒ HotWaterExceedsMeter)  -- 8: H > M
    ∷ (zero_divisor s ⇒ ZeroDivisor)
    ∷ (leb 3 s.model && eqb (length (read_units s)) 0 ⇒ NoReadings)  -- 10: models 3 to 5, no status 0
    ∷ (all_metered s && ltb (space_heat_wh s) (metered_sum s) ⇒ MetersExceedHeat)  -- 11: step 2's exception, C > EG
    ∷ (has_pool s && ltb (10000 * total_area s) (sum (unread_weights s)) ⇒ UnmeteredExceedsHeat)  -- 12: the pool's weight would be below 0
    ∷ []

-- ---- step 7
-- a bill in cents: reading × price / 1,000,000, half up
abbrev pub cents_for : (reading price : ℕ) → ℕ
cents_for reading price = (reading * price + 500000) / 1000000

-- the month's: of M
unfoldable pub bill_cents : Sheet → ℕ
bill_cents s = cents_for s.shared_meter s.price

-- the bill divided over the 4n energies as weights
unfoldable pub costs : RuleSet → Sheet → List ℕ
costs rules s = shares_under rules (bill_cents s) (energies whole_wh rules s)

-- the statement, 8n numbers: per unit four Wh, four cents
unfoldable pub four_and_four : ℕ → List ℕ → List ℕ → List ℕ
four_and_four zero es cs = []
four_and_four (suc n) es cs = take 4 es ++ (take 4 cs ++ four_and_four n (drop 4 es) (drop 4 cs))

-- where step 5 divides `common` and step 7 `bill`
abbrev pub statement_with : RuleSet → Sheet → (common bill : ℕ) → List ℕ
statement_with rules s common bill =
    let es = energies_with whole_wh rules s common in
    four_and_four (length s.units) es (shares_under rules bill es)

unfoldable pub statement_of : RuleSet → Sheet → List ℕ
statement_of rules s = statement_with rules s (heat_parts whole_wh rules s).common (bill_cents s)

-- ---- the answer for any bytes
pub record Month : Type 0 where
  pub month : ℕ
  pub unit_count : ℕ
  pub ids : List ℕ
  pub meter : ℕ  -- M
  pub bill : ℕ
  pub numbers : List ℕ  -- the statement

unfoldable pub month_of : RuleSet → Sheet → Month
month_of rules s = record {
  month = s.month;
  unit_count = s.unit_count;
  ids = map (λ u. u.id) s.units;
  meter = s.shared_meter;
  bill = bill_cents s;
  numbers = statement_of rules s;
}

pub data Settled : Type 0 where
  refused : Refusal → Settled
  settled : Month → Settled

-- 1 to 7, then 8 to 12: the same by all rules
unfoldable pub settle_rules : List ℕ → List Rule
settle_rules bytes = sheet_rules 32 bytes ++ month_rules (sheet_of bytes)

abbrev pub unless_refused : Outcome → Month → Settled
unless_refused (Ok tt) m = settled m
unless_refused (Err r) m = refused r

unfoldable pub settled_sheet : RuleSet → List ℕ → Settled
settled_sheet rules bytes = unless_refused (first_refusal (settle_rules bytes)) (month_of rules (sheet_of bytes))

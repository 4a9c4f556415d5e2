-- Steps 1 to 6 of a month (document 01, "Steps of a month"), once for whole Wh and for fractions, and for the rules of every archive version.
use Rattle.std.specs.Prelude.{List, [], ◌∷◌, ◌++◌, map, ℕ, zero, suc, ◌+◌, ◌*◌, ◌-◌, ◌/◌, eqb, length, get_or, drop, if◌then◌else◌}
use Rattle.apportion.specs.Shares.{sum, shares}
use Rattle.sheet.specs.declared.rule_set.RuleSet.{RuleSet}
use Rattle.sheet.specs.RuleSets.{ties}
use Rattle.sheet.specs.Layout.{UnitRow, Sheet, water_reading}
use Rattle.month.specs.Fraction.{Fraction, ◌over◌, ◌+ᶠ◌, ◌-ᶠ◌, portions}
use Rattle.month.specs.Weights.{is_read, unread_units, all_metered, metered_sum, unread_weights, pool_weight, read_weights, water_weight, common_water_weight}

-- What the steps do with an energy.
pub record Rounding : Type 1 where
  pub Energy : Type 0
  pub wh : ℕ → Energy  -- an amount of Wh
  pub quotient : ℕ → ℕ → Energy  -- upper / lower
  pub more : Energy → Energy → Energy  -- a sum
  pub less : Energy → Energy → Energy  -- a difference
  pub divided : RuleSet → Energy → List ℕ → List Energy  -- divided by weights, by the rules

-- How a whole number is divided by weights, by the rules.
abbrev pub Method : Type 0
Method = RuleSet → ℕ → List ℕ → List ℕ

-- "Dividing" (document 01), ties by the rules (2026-06).
abbrev pub shares_under : Method
shares_under rules = shares (ties rules)

-- The statement's: a quotient is rounded up (own), a division goes by the largest remainders.
abbrev pub dividing_by : Method → Rounding
dividing_by divide = record { Energy = ℕ; wh = λ n. n; quotient = λ a b. (a + (b - 1)) / b; more = ◌+◌; less = ◌-◌; divided = divide }

abbrev pub whole_wh : Rounding
whole_wh = dividing_by shares_under

-- The unrounded portions': a quotient isn't rounded, and each item of a division gets T × w / W, or 0 when W = 0.
abbrev pub unrounded : Rounding
unrounded = record { Energy = Fraction; wh = λ n. n over 1; quotient = ◌over◌; more = ◌+ᶠ◌; less = ◌-ᶠ◌; divided = λ rules. portions }

module _ (e : Rounding) where
  open e use {Energy, wh, quotient, less, divided}

  -- item k of a list
  abbrev pub item : ℕ → List Energy → Energy
  item k xs = get_or xs k (wh 0)

  pub record Parts : Type 0 where
    pub of_units : Energy
    pub common : Energy

  -- divided by (100 − percent, percent) into the units' part and the common part, in this order
  unfoldable pub split_by : RuleSet → ℕ → Energy → Parts
  split_by rules percent t =
      let xs = divided rules t ((100 - percent) ∷ percent ∷ []) in
      record { of_units = item 0 xs; common = item 1 xs }

  -- the shares of the units not read and of the read ones, back in the order of the units
  unfoldable pub in_unit_order : List UnitRow → List Energy → List Energy → List Energy
  in_unit_order [] unread read = []
  in_unit_order (u ∷ us) unread read =
      let ofRead = item 0 read ∷ in_unit_order us unread (drop 1 read) in
      let ofUnread = item 0 unread ∷ in_unit_order us (drop 1 unread) read in
      if is_read u then ofRead else ofUnread

  -- four lists unit by unit
  unfoldable pub unit_by_unit : ℕ → List Energy → List Energy → List Energy → List Energy → List Energy
  unit_by_unit zero a b c d = []
  unit_by_unit (suc n) a b c d = item 0 a ∷ item 0 b ∷ item 0 c ∷ item 0 d ∷ unit_by_unit n (drop 1 a) (drop 1 b) (drop 1 c) (drop 1 d)

  module _ (s : Sheet) where
    -- Step 1. Hot water H (article 5): source 0 none, 1 h1, 2 (100 + t) × 54 × h1 / 100, else 3: 115 × (h1 + .. + h6) / 600.
    unfoldable pub hot_water : Energy
    hot_water =
        if eqb s.water_source 0 then wh 0
        else if eqb s.water_source 1 then wh (water_reading s 0)
        else if eqb s.water_source 2 then quotient ((100 + s.loss_factor) * 54 * water_reading s 0) 100
        else quotient (115 * sum s.water_readings) 600

    -- Space heat EG = M − H (articles 5 (9), 7 (1)).
    unfoldable pub space_heat : Energy
    space_heat = less (wh s.shared_meter) hot_water

  -- Steps 2 to 6, by the rules.
  module _ (rules : RuleSet) (s : Sheet) where
    -- Step 2 (article 7). Model 5 with every status 0: the units' heat is C, the common heat EG − C. Otherwise by (100 − z, z).
    unfoldable pub heat_parts : Parts
    heat_parts =
        if all_metered s then record { of_units = wh (metered_sum s); common = less (space_heat s) (wh (metered_sum s)) }
        else split_by rules s.common_heat_percent (space_heat s)

    -- Step 3, models 3 to 5 (articles 8 (4), 10 (6)): the units not read in their order, last the metered pool.
    unfoldable pub pool_shares : List Energy
    pool_shares = divided rules heat_parts.of_units (unread_weights s ++ pool_weight s ∷ [])

    -- Step 4 (articles 8 to 10). The metered pool goes to the read units.
    unfoldable pub read_shares : List Energy
    read_shares = divided rules (item (length (unread_units s)) pool_shares) (read_weights rules s)

    -- Each unit's heat: its b where every meter is read; models 1 and 2 by q, by p; else by steps 3 and 4.
    unfoldable pub heat : List Energy
    heat =
        if all_metered s then map (λ u. wh u.reading) s.units
        else if eqb s.model 1 then divided rules heat_parts.of_units (map (λ u. u.heat_load) s.units)
        else if eqb s.model 2 then divided rules heat_parts.of_units (map (λ u. u.heated_area) s.units)
        else in_unit_order s.units pool_shares read_shares

    -- Step 5 (article 11). Common heat by p over all units.
    unfoldable pub common_heat : Energy → List Energy
    common_heat total = divided rules total (map (λ u. u.heated_area) s.units)

    -- Step 6 (article 6). H by (100 − y, y) into units' and common water.
    unfoldable pub water_parts : Parts
    water_parts = split_by rules s.common_water_percent (hot_water s)

    -- Units' water (article 12).
    unfoldable pub water : List Energy
    water = divided rules water_parts.of_units (map (water_weight s) s.units)

    -- Common water (article 13).
    unfoldable pub common_water : List Energy
    common_water = divided rules water_parts.common (map common_water_weight s.units)

    -- The 4n energies, unit by unit: heat, common heat, water, common water, where step 5 divides `total`.
    abbrev pub energies_with : Energy → List Energy
    energies_with total = unit_by_unit (length s.units) heat (common_heat total) water common_water

    -- Those of a month by itself: step 5 divides the common heat of step 2.
    unfoldable pub energies : List Energy
    energies = energies_with heat_parts.common

-- A surveyed group step by step as the code goes: the difference, its shares, 21, and the figures with their shares. Assumes nothing.
use mathlib.Core.Path.{◌≡◌, refl, sym, ap, ap₂, ◌∙◌}
use mathlib.Core.Bool.{false, ◌&&◌}
use mathlib.Core.List.{List, [], ◌∷◌, map, zip_with}
use Prim.Native.Nat.{ℕ, ◌≤◌, ◌<◌}
use native.Mathlib.Omega.{arith}
use lib.Dec.{ltb}
use lib.IntN.{ℤ, pos, nat_abs, ◌-ℤ◌}
use lib.ListN.{length, get_or, length-map}
use Rattle.apportion.specs.Shares.{sum}
use Rattle.sheet.specs.Tests.{any}
use Rattle.sheet.specs.declared.rule_set.RuleSet.{RuleSet}
use Rattle.sheet.specs.Layout.{Sheet, sheet_of}
use Rattle.month.specs.Weights.{total_area}
use Rattle.month.specs.Steps.{shares_under, whole_wh}
use Rattle.month.specs.Inner.Accepted.{AcceptedSheet}
use Rattle.month.proofs.Nearness.{get_d_map_in}
use Rattle.group.specs.Group.{Group, difference, is_negative, adjusted, difference_shares, common_heats, adjusted_readings, common_heat_below_zero}
use Rattle.group.specs.Inner.Accepted.{CheckedGroup, AcceptedGroup}
use Rattle.group.specs.Inner.Figures.{common_heat, MovableAt, Movable, Settleable, Adjusted}
use Rattle.group.proofs.Lists.{at}
use Rattle.group.proofs.Answers.{covers}
use Rattle.group.proofs.Bounds.{areas_le, meters_le, difference_le}
use Rattle.group.proofs.Readings.{areas_positive, shares-fair, shares-length, common_le_meter, covered}

-- a list beside figures of the buildings is one beside the buildings
zip_map : {A B : Type 0} (f : ℕ → ℕ → B) (h : A → ℕ) (xs : List A) (ys : List ℕ) → zip_with f (map h xs) ys ≡ zip_with (λ x y. f (h x) y) xs ys
unfolding zip_with
zip_map f h [] ys = refl
zip_map f h (x ∷ xs) [] = refl
zip_map f h (x ∷ xs) (y ∷ ys) = ap (λ (r : List _). f (h x) y ∷ r) (zip_map f h xs ys)

-- the difference, as a signed number and its size
pub record Measured (g : Group) (d : ℤ) (size : ℕ) : Type 0 where
  pub difference-is : d ≡ difference g
  pub size_is : size ≡ nat_abs d

abbrev meter : Sheet → ℕ
meter s = s.shared_meter

module _ {rules : RuleSet} {g : Group} (c : CheckedGroup g) {areas commons out : List ℕ} (s : Settleable rules g areas commons out) where
  -- ---- the readings, and the difference
  pub sum_le : {meters : List ℕ} → meters ≡ map meter g.buildings → sum meters ≤ 48000000000
  sum_le are = omega (arith, ap sum are, meters_le g c)

  pub measured : {meters : List ℕ} {d z : ℤ} {size : ℕ} → meters ≡ map meter g.buildings → z ≡ d → d ≡ (pos g.shared_reading -ℤ pos (sum meters)) → size ≡ nat_abs z → Measured g z size
  unfolding difference
  measured are same is size = record { difference-is = same ∙ is ∙ ap (λ (xs : List ℕ). pos g.shared_reading -ℤ pos (sum xs)) are; size_is = size }

  pub areas_many : length areas ≡ length g.buildings
  areas_many = ap length s.areas_are ∙ length-map g.buildings total_area

  module _ {d : ℤ} {size : ℕ} (m : Measured g d size) where
    is : d ≡ difference g
    is = m.difference-is

    size_is : size ≡ nat_abs (difference g)
    size_is = m.size_is ∙ ap nat_abs is

    pub shares-asked : (length areas ≤ 12) × (0 < sum areas) × (sum areas ≤ 19200000) × (size ≤ 48000000000)
    shares-asked =
        let e = ap sum s.areas_are in
        (omega (arith, areas_many, c.count), omega (arith, e, areas_positive g.buildings c.some c.each), omega (arith, e, areas_le g c), omega (arith, size_is, difference_le g c))

    -- ---- its shares
    module _ {parts : List ℕ} (divided : parts ≡ shares_under rules size areas) where
      parts_are : parts ≡ difference_shares whole_wh rules g
      unfolding difference_shares
      parts_are = divided ∙ ap₂ (shares_under rules) size_is s.areas_are

      pub parts_many : length parts ≡ length g.buildings
      parts_many = ap length parts_are ∙ shares-length g c rules

      pub commons_many : length commons ≡ length parts
      commons_many = ap length s.commons_are ∙ length-map g.buildings (common_heat rules) ∙ sym parts_many

      pub goes_below-is : (is_negative d && any (zip_with ltb commons parts)) ≡ common_heat_below_zero rules g
      unfolding common_heat_below_zero
      goes_below-is = ap₂ ◌&&◌ (ap is_negative is) (ap any (ap₂ (zip_with ltb) s.commons_are parts_are ∙ zip_map ltb (common_heat rules) g.buildings (difference_shares whole_wh rules g)))

      -- ---- past 21
      module _ (above : common_heat_below_zero rules g ≡ false) where
        past_21 : AcceptedGroup rules g
        past_21 = covers rules g c above

        -- the common heats, or the readings: a figure from the common heat up to M
        module _ (f : Sheet → ℕ) (low : (u : Sheet) → AcceptedSheet u → common_heat rules u ≤ f u) (high : (u : Sheet) → AcceptedSheet u → f u ≤ u.shared_meter)
            {xs : List ℕ} (are : xs ≡ map f g.buildings) where
          many : length xs ≡ length g.buildings
          many = ap length are ∙ length-map g.buildings f

          figure_is : (i : ℕ) → i < length g.buildings → get_or xs i 0 ≡ f (get_or g.buildings i (sheet_of []))
          figure_is i h = ap (λ (ys : List ℕ). get_or ys i 0) are ∙ get_d_map_in f g.buildings i (sheet_of []) 0 h

          part_is : (i : ℕ) → get_or parts i 0 ≡ get_or (difference_shares whole_wh rules g) i 0
          part_is i = ap (λ (ys : List ℕ). get_or ys i 0) parts_are

          movable-at : (i : ℕ) → i < length g.buildings → MovableAt d (get_or parts i 0) (get_or xs i 0)
          movable-at i h =
              let k = at (covered rules g past_21) i (sheet_of []) 0 h in
              record {
                taken = λ e. omega (arith, part_is i, figure_is i h, k.enough (sym (ap is_negative is) ∙ e), low _ k.accepted);
                added = λ e. omega (arith, part_is i, figure_is i h, high _ k.accepted, k.accepted.checked-sheet.header.shared_meter, (shares-fair g c rules).within-total i, difference_le g c);
              }

          pub movable : Movable d parts xs
          movable = record { as_many = parts_many ∙ sym many; each = λ i h. movable-at i (omega (arith, many)) }

          pub moved : {ys : List ℕ} → ys ≡ zip_with (adjusted whole_wh d) xs parts → ys ≡ zip_with (λ u y. adjusted whole_wh (difference g) (f u) y) g.buildings (difference_shares whole_wh rules g)
          moved e =
              e ∙ ap (λ (z : ℤ). zip_with (adjusted whole_wh z) xs parts) is
              ∙ ap₂ (zip_with (adjusted whole_wh (difference g))) are parts_are
              ∙ zip_map (adjusted whole_wh (difference g)) f g.buildings (difference_shares whole_wh rules g)

        pub commons_movable : Movable d parts commons
        commons_movable = movable (common_heat rules) (λ u a. omega arith) (λ u a. common_le_meter rules u a) s.commons_are

        module _ {meters : List ℕ} (are : meters ≡ map meter g.buildings) where
          pub meters_movable : Movable d parts meters
          meters_movable = movable meter (λ u a. common_le_meter rules u a) (λ u a. omega arith) are

          pub adjusted-group : {readings heats lent : List ℕ} → readings ≡ zip_with (adjusted whole_wh d) meters parts → heats ≡ zip_with (adjusted whole_wh d) commons parts → length lent ≡ length out
              → Adjusted rules g readings heats lent
          unfolding adjusted_readings common_heats
          adjusted-group r h l = record {
            accepted-group = past_21;
            readings_are = moved meter (λ u a. common_le_meter rules u a) (λ u a. omega arith) are r;
            commons_are = moved (common_heat rules) (λ u a. omega arith) (λ u a. common_le_meter rules u a) s.commons_are h;
            out-room = l ∙ s.out-room;
          }

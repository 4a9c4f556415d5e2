-- Buildings that pass 1 to 12, as code meets them: by their places, and as a group. Assumes nothing.
use mathlib.Core.Path.{◌≡◌, refl, sym, ap, ◌∙◌}
use mathlib.Core.Bool.{false}
use mathlib.Core.List.{List, [], ◌∷◌, map}
use Prim.Native.Nat.{ℕ, zero, suc, ◌+◌, ◌≤◌, ◌<◌}
use native.Mathlib.Omega.{arith}
use lib.ListN.{length, get_or}
use Rattle.std.specs.Prelude.{Ok, Err, IsOk}
use Rattle.apportion.specs.Shares.{sum}
use Rattle.sheet.specs.Tests.{Each}
use Rattle.sheet.specs.Refusals.{first_refusal}
use Rattle.sheet.specs.Check.{checked}
use Rattle.month.specs.Month.{settle_rules}
use Rattle.settlement.proofs.Charging.{both-accepted}
use Rattle.group.specs.declared.buildings.Building.{Building}
use Rattle.group.specs.Group.{group_units}
use Rattle.group.specs.Answer.{GroupAnswer, part_of, parts_of, bad_group, first_in, own_stages}
use Rattle.group.specs.Inner.Parts.{building_at}
use Rattle.group.specs.Inner.Accepted.{CheckedGroup}
use Rattle.group.proofs.Parts.{parts_length, part_at, sheets, sheet-count, placed}
use Rattle.group.proofs.Bounds.{units_le}
use Rattle.group.proofs.Answers.{Passed, all-passed, each-accepted}

accepted : (a : GroupAnswer) → IsOk a → a ≡ Ok tt
accepted (Ok tt) h = refl
accepted (Err e) h = absurd (let z : ◌≡◌ {A = ℕ} 0 1 = cc in omega arith)

each_passes : (i : ℕ) (parts : List (List ℕ)) → Each Passed (own_stages i parts) → (k : ℕ) → k < length parts → first_refusal (settle_rules (get_or parts k [])) ≡ Ok tt
unfolding own_stages
each_passes i [] p k h = absurd (omega arith)
each_passes i (part ∷ parts) p zero h = p.0
each_passes i (part ∷ parts) p (suc k) h = each_passes (i + 1) parts p.1 k (omega arith)

module _ (buffer : List ℕ) (bs : List Building) (passed : IsOk (first_in (own_stages 0 (parts_of buffer bs)))) where
  each : Each Passed (own_stages 0 (parts_of buffer bs))
  each = all-passed _ (accepted _ passed)

  pub passes : (i : ℕ) → i < length bs → first_refusal (settle_rules (part_of buffer (building_at bs i))) ≡ Ok tt
  passes i h = ap (λ (part : List ℕ). first_refusal (settle_rules part)) (sym (part_at buffer bs i h)) ∙ each_passes 0 (parts_of buffer bs) each i (omega (arith, parts_length buffer bs))

  pub sheet_passes : (i : ℕ) → i < length bs → checked 32 (part_of buffer (building_at bs i)) ≡ Ok tt
  sheet_passes i h = (both-accepted _ (passes i h)).0

  pub checked-group : (reading : ℕ) → bad_group buffer bs reading ≡ false → CheckedGroup (record { buildings = sheets buffer bs; shared_reading = reading })
  checked-group reading good =
      let p = placed buffer bs reading good in
      record {
        each = each-accepted 0 (parts_of buffer bs) each;
        some = omega (arith, p.some, sheet-count buffer bs);
        count = omega (arith, p.few, sheet-count buffer bs);
        reading = p.reading_le;
      }

  -- at most 1,920 units
  pub units_few : (reading : ℕ) → bad_group buffer bs reading ≡ false → sum (map (λ s. s.unit_count) (sheets buffer bs)) ≤ 1920
  unfolding group_units
  units_few reading good = units_le _ (checked-group reading good)

  pub sheet_passed : (i : ℕ) → i < length bs → {part : List ℕ} → part ≡ part_of buffer (building_at bs i) → IsOk (checked 32 part)
  sheet_passed i h e = rw (e, sheet_passes i h) refl

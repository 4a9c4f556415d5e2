-- What holds of the sums of a sheet that passes, and of a month that is not refused. Assumes nothing.
use mathlib.Core.Path.{◌≡◌, sym, ap, subst, ◌∙◌}
use mathlib.Core.List.{List}
use Prim.Native.Nat.{ℕ, ◌≤◌}
use native.Mathlib.Omega.{arith}
use lib.ListN.{length}
use Rattle.sheet.specs.Layout.{sheet_of}
use Rattle.sheet.specs.Inner.Fits.{UnitFits}
use Rattle.sheet.specs.Inner.Fields.{row_place}
use Rattle.sheet.specs.Inner.Views.{sheet_in, unit_in}
use Rattle.sheet.specs.declared.view.RowView.{RowView}
use Rattle.sheet.proofs.Views.{accepted, unit_fits}
use Rattle.month.specs.Inner.Accepted.{CheckedSheet, AcceptedSheet}
use Rattle.month.proofs.Accepted.{fits-checked, month-accepted}
use Rattle.weights.specs.Inner.Totals.{totals_in, Within}
use Rattle.weights.specs.declared.basis.Basis.{Basis}
use Rattle.weights.specs.declared.basis.Unit.{Unit}
use Rattle.weights.specs.declared.accepted.Month.{Month}
use Rattle.weights.proofs.Sums.{sums_are, sums-within, impulses-within}

-- a row's fields are in range
pub row_fits : (row : RowView) → UnitFits (sheet_in row) (unit_in row)
row_fits row = unit_fits row.sheet.bytes.now row.sheet.fits (row_place row.start) row.inside

module _ (b : Basis) where
  few : length (sheet_of b.sheet.bytes.now).units ≤ 160
  few = let f = b.sheet.fits in omega (arith, f.units_length, f.header.unit_count)

  pub within : Within 160 b.totals
  within =
      let s = sheet_of b.sheet.bytes.now in
      let f = b.sheet.fits in
      subst (Within 160) (sym b.summed) (sums-within s s.units f.header.unmetered_factor_high f.units few (totals_in s) (sums_are s))

  pub impulses : (sheet_of b.sheet.bytes.now).model ≤ 4 → b.totals.readings ≤ 8000000
  impulses m =
      let s = sheet_of b.sheet.bytes.now in
      let f = b.sheet.fits in
      rw b.summed (impulses-within s s.units f.header.unmetered_factor_high f.units few m (sums_are s).readings)

  pub passes : CheckedSheet (sheet_of b.sheet.bytes.now)
  passes = fits-checked b.sheet.fits

pub month_accepted : (m : Month) → AcceptedSheet (sheet_of m.basis.sheet.bytes.now)
month_accepted m = month-accepted (sheet_of m.basis.sheet.bytes.now) (passes m.basis) (accepted _ m.accepted)

-- the sums of a unit's own sheet
pub unit_summed : (u : Unit) → u.basis.now.totals ≡ totals_in (sheet_in u.row)
unit_summed u = u.basis.now.summed ∙ ap (λ (bytes : List ℕ). totals_in (sheet_of bytes)) (sym u.same_sheet)

pub unit_impulses : (u : Unit) → (sheet_in u.row).model ≤ 4 → u.basis.now.totals.readings ≤ 8000000
unit_impulses u m = impulses u.basis.now (subst (λ (bytes : List ℕ). (sheet_of bytes).model ≤ 4) u.same_sheet m)

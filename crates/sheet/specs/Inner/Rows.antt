-- The rows of a sheet one after the other.
use Rattle.std.specs.Prelude.{◌≡◌, List, [], ◌∷◌, drop, Option, None, Some}
use Rattle.sheet.specs.declared.view.RowView.{RowView}
use Rattle.sheet.specs.declared.row_views.Rows.{Rows}
use Rattle.sheet.specs.Layout.{UnitRow, sheet_of}
use Rattle.sheet.specs.Inner.Views.{unit_in}

-- the units that are still to come
abbrev pub rows_left : Rows → List UnitRow
rows_left rows = drop rows.next (sheet_of rows.sheet.bytes.now).units

-- the first of them is given, or none is left now or later
abbrev pub GivesRow : Rows → Option RowView → Rows → Type 0
GivesRow old None new = (rows_left old ≡ []) × (rows_left new ≡ [])
GivesRow old (Some row) new = (rows_left old ≡ unit_in row ∷ rows_left new) × (row.sheet.bytes ≡ old.sheet.bytes) × (new.sheet.bytes ≡ old.sheet.bytes)

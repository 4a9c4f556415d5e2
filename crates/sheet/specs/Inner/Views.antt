-- What a row's view shows.
use Rattle.sheet.specs.declared.view.RowView.{RowView}
use Rattle.sheet.specs.Layout.{UnitRow, Sheet, sheet_of}
use Rattle.sheet.specs.Inner.Fields.{unit_of, row_place}

-- the sheet that the row stands in
abbrev pub sheet_in : RowView → Sheet
sheet_in row = sheet_of row.sheet.bytes.now

abbrev pub unit_in : RowView → UnitRow
unit_in row = unit_of (sheet_in row) (row_place row.start)

-- The sheet that a month is of.
use Rattle.sheet.specs.Layout.{Sheet, sheet_of}
use Rattle.weights.specs.declared.accepted.Month.{Month}

abbrev pub sheet_of_month : Month → Sheet
sheet_of_month m = sheet_of m.basis.sheet.bytes.now

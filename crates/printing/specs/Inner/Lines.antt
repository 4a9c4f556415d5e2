-- The lines of a sheet that passes, settled by the newest rules, with its statement beside it.
use Rattle.std.specs.Prelude.{List, ◌++◌, ℕ}
use Rattle.sheet.specs.RuleSets.{newest}
use Rattle.sheet.specs.Layout.{sheet_of}
use Rattle.month.specs.Month.{month_of}
use Rattle.printing.specs.Printed.{first_line, unit_lines}

abbrev pub first_line_of : (sheet : List ℕ) → List ℕ
first_line_of sheet = first_line (month_of newest (sheet_of sheet))

abbrev pub unit_lines_of : (sheet statement : List ℕ) → List ℕ
unit_lines_of sheet statement = unit_lines (month_of newest (sheet_of sheet)).ids statement

abbrev pub month_lines : (sheet statement : List ℕ) → List ℕ
month_lines sheet statement = first_line_of sheet ++ unit_lines_of sheet statement

-- What code makes of any bytes: the settled month, or the refusal.
use Rattle.std.specs.Prelude.{Result, Ok, Err}
use Rattle.sheet.specs.declared.refusal.Refusal.{Refusal}
use Rattle.sheet.specs.RuleSets.{newest}
use Rattle.sheet.specs.Layout.{sheet_of}
use Rattle.month.specs.Month.{Settled, refused, settled, month_of}
use Rattle.printing.specs.declared.settled.SettledMonth.{SettledMonth}

abbrev pub settled_in : Result SettledMonth Refusal → Settled
settled_in (Ok month) = settled (month_of newest (sheet_of month.sheet.bytes.now))
settled_in (Err r) = refused r

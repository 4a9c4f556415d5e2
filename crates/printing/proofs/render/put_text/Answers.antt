-- A month's statement is its sheet's.
use mathlib.Core.Path.{◌≡◌, sym, ap, subst, ◌∙◌}
use mathlib.Core.List.{List}
use Prim.Native.Nat.{ℕ}
use native.Mathlib.Omega.{arith}
use lib.ListN.{length}
use Rattle.std.specs.Prelude.{Result, Ok}
use Rattle.sheet.specs.declared.refusal.Refusal.{Refusal}
use Rattle.sheet.specs.RuleSets.{newest}
use Rattle.sheet.specs.Layout.{sheet_of}
use Rattle.printing.specs.declared.settled.SettledMonth.{SettledMonth}
use Rattle.printing.specs.Printed.{text_of}
use Rattle.printing.specs.Inner.Lines.{month_lines}
use Rattle.printing.specs.Inner.Outcomes.{settled_in}
use Rattle.printing.proofs.Lines.{month_text}
use Rattle.printing.proofs.render.put_text.Goals as goal

text-is : (o : Result SettledMonth Refusal) (m : SettledMonth) → o ≡ Ok m → month_lines m.sheet.bytes.now m.statement.now ≡ text_of (settled_in o)
text-is o m e = month_text newest (sheet_of m.sheet.bytes.now) m.statement.now m.is ∙ ap (λ (o : Result SettledMonth Refusal). text_of (settled_in o)) (sym e)

pub put_month-requires : goal.put_month-requires
put_month-requires g c = omega (arith, c.requires, ap length (text-is c.args.outcome c.in-Ok.month c.in-Ok.is))

pub returns-in-Ok : goal.returns-in-Ok
returns-in-Ok g c = subst (λ (t : List ℕ). g.S.Sink.took c.args.sink.now t c.put_month.new.sink) (text-is c.args.outcome c.in-Ok.month c.in-Ok.is) c.put_month.ensures

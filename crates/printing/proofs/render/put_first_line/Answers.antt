-- Four numbers behind their labels, and a newline.
use mathlib.Core.Path.{subst, ◌∙◌}
use mathlib.Core.List.{List}
use Prim.Native.Nat.{ℕ}
use native.Mathlib.Omega.{arith}
use Rattle.sheet.specs.RuleSets.{newest}
use Rattle.sheet.specs.Layout.{sheet_of}
use Rattle.month.specs.Month.{month_of}
use Rattle.printing.proofs.Lines.{FirstLine, first_line_parts, first_line-long}
use Rattle.printing.proofs.render.put_first_line.Goals as goal
use Rattle.printing.proofs.render.put_first_line.Goals.{After-bill_cents-bill}

-- what the four numbers are
are : (g : _) (c : After-bill_cents-bill g) → FirstLine (month_of newest (sheet_of c.args.sheet.bytes.now)) c.from-month.result c.from-count.result c.from-meter.result c.bill_cents-bill.result
unfolding month_of
are g c = record {
  month = c.from-month.ensures ∙ c.header.ensures;
  count = c.from-count.ensures ∙ c.header-2.ensures;
  meter = c.from-meter.ensures ∙ c.header-3.ensures;
  bill = c.bill_cents-bill.ensures.0;
}

pub put_labelled-requires : goal.put_labelled-requires
put_labelled-requires g c = omega (arith, c.requires, first_line-long (are g (goal.at.put_labelled-requires g c).After-bill_cents-bill))

pub put_labelled-requires-2 : goal.put_labelled-requires-2
put_labelled-requires-2 g c =
    let l = g.met.S.Sink.laws in
    omega (
      arith,
      c.requires,
      first_line-long (are g (goal.at.put_labelled-requires-2 g c).After-bill_cents-bill),
      l.room _ _ _ c.put_labelled.ensures,
    )

pub put_labelled-requires-3 : goal.put_labelled-requires-3
put_labelled-requires-3 g c =
    let l = g.met.S.Sink.laws in
    omega (
      arith,
      c.requires,
      first_line-long (are g (goal.at.put_labelled-requires-3 g c).After-bill_cents-bill),
      l.room _ _ _ c.put_labelled.ensures,
      l.room _ _ _ c.put_labelled-2.ensures,
    )

pub put_labelled-requires-4 : goal.put_labelled-requires-4
put_labelled-requires-4 g c =
    let l = g.met.S.Sink.laws in
    omega (
      arith,
      c.requires,
      first_line-long (are g (goal.at.put_labelled-requires-4 g c).After-bill_cents-bill),
      l.room _ _ _ c.put_labelled.ensures,
      l.room _ _ _ c.put_labelled-2.ensures,
      l.room _ _ _ c.put_labelled-3.ensures,
    )

pub put-requires : goal.put-requires
put-requires g c =
    let l = g.met.S.Sink.laws in
    omega (
      arith,
      c.requires,
      first_line-long (are g (goal.at.put-requires g c).After-bill_cents-bill),
      l.room _ _ _ c.put_labelled.ensures,
      l.room _ _ _ c.put_labelled-2.ensures,
      l.room _ _ _ c.put_labelled-3.ensures,
      l.room _ _ _ c.put_labelled-4.ensures,
    )

pub returns : goal.returns
returns g c =
    let l = g.met.S.Sink.laws in
    subst (λ (t : List ℕ). g.S.Sink.took c.args.sink.now t c.put.new.self)
    (first_line_parts (are g (goal.at.returns g c).After-bill_cents-bill))
    (l.both _ _ _ _ _ c.put_labelled.ensures (l.both _ _ _ _ _ c.put_labelled-2.ensures (l.both _ _ _ _ _ c.put_labelled-3.ensures (l.both _ _ _ _ _ c.put_labelled-4.ensures c.put.ensures))))

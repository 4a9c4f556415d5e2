-- Number and place behind their labels, and a newline.
use mathlib.Core.Path.{refl, subst, ◌∙◌}
use mathlib.Core.List.{List}
use Prim.Native.Nat.{ℕ}
use native.Mathlib.Omega.{arith}
use Rattle.printing.proofs.Lines.{refusal_line_parts, refusal_line-long}
use Rattle.printing.proofs.render.put_refusal.Goals as goal

pub put_labelled-requires : goal.put_labelled-requires
put_labelled-requires g c = omega (arith, c.requires, refusal_line-long c.args.refusal (c.from.ensures ∙ c.number.ensures) refl)

pub put_labelled-requires-2 : goal.put_labelled-requires-2
put_labelled-requires-2 g c =
    let l = g.met.S.Sink.laws in
    omega (
      arith,
      c.requires,
      refusal_line-long c.args.refusal (c.from.ensures ∙ c.number.ensures) (c.from-2.ensures ∙ c.place.ensures),
      l.room _ _ _ c.put_labelled.ensures,
    )

pub put-requires : goal.put-requires
put-requires g c =
    let l = g.met.S.Sink.laws in
    omega (
      arith,
      c.requires,
      refusal_line-long c.args.refusal (c.from.ensures ∙ c.number.ensures) (c.from-2.ensures ∙ c.place.ensures),
      l.room _ _ _ c.put_labelled.ensures,
      l.room _ _ _ c.put_labelled-2.ensures,
    )

pub returns : goal.returns
returns g c =
    let l = g.met.S.Sink.laws in
    subst (λ (t : List ℕ). g.S.Sink.took c.args.sink.now t c.put.new.self)
    (refusal_line_parts c.args.refusal (c.from.ensures ∙ c.number.ensures) (c.from-2.ensures ∙ c.place.ensures))
    (l.both _ _ _ _ _ c.put_labelled.ensures (l.both _ _ _ _ _ c.put_labelled-2.ensures c.put.ensures))

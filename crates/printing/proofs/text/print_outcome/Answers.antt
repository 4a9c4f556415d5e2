-- The text is put where all of it has room.
use mathlib.Core.Path.{◌≡◌, subst}
use mathlib.Core.List.{List}
use Prim.Native.Nat.{ℕ, ◌≤◌}
use native.Mathlib.Omega.{arith}
use lib.ListN.{length}
use Rattle.std.proofs.Common.{rules}
use Rattle.printing.specs.Printed.{text_of, longest, at_front}
use Rattle.printing.specs.Inner.Outcomes.{settled_in}
use Rattle.printing.proofs.Answers.{list-too_short, put-at_front, outcome_short, outcome_fits}
use Rattle.printing.proofs.text.print_outcome.Goals as goal
use Rattle.printing.proofs.text.print_outcome.Goals.{After-put_text}

pub put_text-requires : goal.put_text-requires
put_text-requires c = omega (arith, outcome_short c.args.outcome, outcome_fits c.args.outcome)

how_long : (c : After-put_text) → (c.put_text.new.sink.len ≡ length (text_of (settled_in c.args.outcome))) × (c.put_text.new.sink.len ≤ longest (settled_in c.args.outcome))
how_long c = (omega (arith, c.put_text.ensures), omega (arith, c.put_text.ensures, outcome_short c.args.outcome))

pub returns-then-text-len-clause-value : goal.returns-then-text-len-clause-value
returns-then-text-len-clause-value c = how_long (goal.at.returns-then-text-len-clause-value c).After-put_text

pub returns-then-text-len-clause-text_after : goal.returns-then-text-len-clause-text_after
returns-then-text-len-clause-text_after c =
    let long = how_long (goal.at.returns-then-text-len-clause-text_after c).After-put_text in
    list-too_short (text_of (settled_in c.args.outcome)) c.args.text.now (omega (arith, long.0, c.if-text-len.true))

pub returns-clause-value : goal.returns-clause-value
returns-clause-value c = how_long (goal.at.returns-clause-value c).After-put_text

pub returns-clause-text_after : goal.returns-clause-text_after
returns-clause-text_after c =
    let whole = text_of (settled_in c.args.outcome) in
    let long = how_long (goal.at.returns-clause-text_after c).After-put_text in
    subst (λ (after : List ℕ). after ≡ at_front whole c.args.text.now) (search rules) (put-at_front whole c.args.text.now (omega (arith, long.0, c.if-text-len.false)) c.put_text-2.ensures.placed)

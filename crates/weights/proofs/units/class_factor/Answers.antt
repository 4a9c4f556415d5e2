-- At most 160 × 160,000,000.
use mathlib.Core.Path.{refl}
use native.Mathlib.Omega.{arith}
use borrow.Author.Tests.{eq-eqb, ne_eqb}
use Rattle.weights.proofs.Rows.{two_le}
use Rattle.weights.proofs.units.class_factor.Goals as goal

pub returns-then-others-eq0 : goal.returns-then-others-eq0
returns-then-others-eq0 c = rw (eq-eqb c.args.others 0 c.if-others-eq0.true) (refl, omega arith)

pub overflow_mul-result : goal.overflow_mul-result
overflow_mul-result c = let p = c.requires in omega (arith, two_le p.0 p.1)

pub returns : goal.returns
returns c = let p = c.requires in rw (ne_eqb c.args.others 0 c.if-others-eq0.false) (refl, omega (arith, two_le p.0 p.1))

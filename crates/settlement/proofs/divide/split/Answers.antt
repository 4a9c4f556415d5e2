use mathlib.Core.Path.{sym}
use native.Mathlib.Omega.{arith}
use Rattle.sheet.specs.RuleSets.{ties}
use Rattle.month.specs.Steps.{split_by}
use Rattle.apportion.proofs.Halves.{both, half_up_le, first_part, second-part}
use Rattle.settlement.proofs.divide.split.Goals as goal

pub overflow_mul-units : goal.overflow_mul-units
overflow_mul-units c = omega (arith, both c.args.total c.args.percent (omega arith))

pub overflow_add-units : goal.overflow_add-units
overflow_add-units c = omega (arith, both c.args.total c.args.percent (omega arith))

pub overflow_sub-result : goal.overflow_sub-result
overflow_sub-result c = half_up_le c.args.total c.args.percent (omega arith)

pub returns : goal.returns
unfolding split_by
returns c = let a = c.args in record { units = λ rules. sym (first_part a.total a.percent (omega arith) (ties rules)); common = λ rules. sym (second-part a.total a.percent (omega arith) (ties rules)) }

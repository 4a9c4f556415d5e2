use native.Mathlib.Omega.{arith}
use Rattle.fund.proofs.Answers.{short, shrinks}
use Rattle.fund.proofs.fund_calls.pay_out.Goals as goal

pub returns-then-fund-amount : goal.returns-then-fund-amount
returns-then-fund-amount c = let is = short c.args.fund.now c.args.amount c.if-fund-amount.true in record { value = is.0; fund_after = is.1 }

pub returns : goal.returns
returns c = let is = shrinks c.args.fund.now c.args.amount (omega (arith, c.if-fund-amount.false)) in record { value = is.0; fund_after = is.1 }

-- What dividing a total by weights asks for, the weights' bound apart, and what it gives.
use Rattle.std.specs.Prelude.{◌≡◌, List, ℕ, ◌-◌, ◌^◌, ◌<◌, length, take}
use Rattle.apportion.specs.Shares.{sum}
use Rattle.sheet.specs.declared.rule_set.RuleSet.{RuleSet}
use Rattle.month.specs.Steps.{shares_under}

abbrev pub Divides : ℕ → List ℕ → Type 0
Divides total ws = (total < 2 ^ 32 - 1) × (sum ws ≡ 0 → total ≡ 0)

-- the shares, by the rules, at the front of a list
abbrev pub Shared : RuleSet → ℕ → List ℕ → List ℕ → Type 0
Shared rules total ws out = take (length ws) out ≡ shares_under rules total ws

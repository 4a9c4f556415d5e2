-- What a group has that no refusal meets: plain facts for the laws and for the code. proofs/Answers.antt shows them.
use Rattle.std.specs.Prelude.{true, ◌≡◌, map, ℕ, ◌≤◌, ◌<◌, length, get_or}
use Rattle.sheet.specs.declared.rule_set.RuleSet.{RuleSet}
use Rattle.sheet.specs.Tests.{Each}
use Rattle.month.specs.Steps.{whole_wh, heat_parts}
use Rattle.month.specs.Inner.Accepted.{AcceptedSheet}
use Rattle.group.specs.Group.{Group, difference, is_negative, difference_shares}

-- past 22 and each building's own refusals
pub record CheckedGroup (g : Group) : Type 0 where
  pub each : Each AcceptedSheet g.buildings
  pub some : 0 < length g.buildings
  pub count : length g.buildings ≤ 12
  pub reading : g.shared_reading ≤ 4000000000

-- past 21 too: no building is to give more than its common heat
pub record AcceptedGroup (rules : RuleSet) (g : Group) : Type 0 where
  pub checked-group : CheckedGroup g
  pub not-below : is_negative (difference g) ≡ true → (i : ℕ) → i < length g.buildings
      → get_or (difference_shares whole_wh rules g) i 0 ≤ get_or (map (λ s. (heat_parts whole_wh rules s).common) g.buildings) i 0

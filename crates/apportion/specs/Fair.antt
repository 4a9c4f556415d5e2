-- What every division keeps to, for any number of items. Other crates use these laws and not the text of `shares_by`.
use Rattle.std.specs.Prelude.{◌≡◌, List, ◌⊎◌, ℕ, ◌+◌, ◌*◌, ◌≤◌, ◌<◌, length, get_or}
use Rattle.apportion.specs.declared.tie_rule.TieRule.{TieRule}
use Rattle.apportion.specs.declared.tie_rule.TieRule.TheVariants.{EarlierFirst, LargerFirst}
use Rattle.apportion.specs.Shares.{sum, remainder, Key, shares_by, remainder_then_weight, shares}

-- `shares` divide `total` by the weights: they are as many, they add up, each is less than one away from its exact part,
-- a weight of 0 gets 0, and no share passes the total.
pub record Fair (total : ℕ) (ws : List ℕ) (shares : List ℕ) : Type 0 where
  pub as_many : length shares ≡ length ws
  pub adds_up : sum shares ≡ total
  pub not_above_lem : 0 < sum ws → (i : ℕ) → get_or shares i 0 * sum ws < total * get_or ws i 0 + sum ws
  pub not-below : 0 < sum ws → (i : ℕ) → total * get_or ws i 0 < get_or shares i 0 * sum ws + sum ws
  pub none_for_none : (i : ℕ) → get_or ws i 0 ≡ 0 → get_or shares i 0 ≡ 0
  pub within-total : (i : ℕ) → get_or shares i 0 ≤ total

-- A key that ranks an item with a remainder before every item without one.
abbrev pub RanksRemainders : Key → Type 0
RanksRemainders key =
    (total whole v w : ℕ) → w ≤ whole → remainder total whole w ≡ 0 → 0 < remainder total whole v → key total whole w < key total whole v

-- The law: W = 0 with T > 0 apart, every division by such a key is fair.
abbrev pub EveryDivisionIsFair : Type 0
EveryDivisionIsFair =
    (key : Key) → RanksRemainders key → (total : ℕ) (ws : List ℕ) → (sum ws ≡ 0 → total ≡ 0) → Fair total ws (shares_by key total ws)

-- By both rules for ties.
abbrev pub SharesAreFair : Type 0
SharesAreFair = (ties : TieRule) (total : ℕ) (ws : List ℕ) → (sum ws ≡ 0 → total ≡ 0) → Fair total ws (shares ties total ws)

-- 2026-06: an item of weight v comes before one of weight w exactly when its remainder is larger, or the remainders are equal and its weight is larger.
pub record ComesFirst (total whole v w : ℕ) : Type 0 where
  pub if : (remainder total whole w < remainder total whole v) ⊎ ((remainder total whole w ≡ remainder total whole v) × (w < v))
      → remainder_then_weight total whole w < remainder_then_weight total whole v
  pub only_if_lem : remainder_then_weight total whole w < remainder_then_weight total whole v
      → (remainder total whole w < remainder total whole v) ⊎ ((remainder total whole w ≡ remainder total whole v) × (w < v))

abbrev pub LargerWeightFirst : Type 0
LargerWeightFirst = (total whole v w : ℕ) → v ≤ whole → w ≤ whole → ComesFirst total whole v w

-- No item with a remainder is followed by one of the same remainder and larger weight. There both rules for ties divide alike.
abbrev pub NoLaterLarger : ℕ → List ℕ → Type 0
NoLaterLarger total ws =
    let rest = λ (i : ℕ). remainder total (sum ws) (get_or ws i 0) in
    (i j : ℕ) → i < j → j < length ws → 0 < rest i → rest i ≡ rest j → get_or ws j 0 ≤ get_or ws i 0

abbrev pub AlikeButForTies : Type 0
AlikeButForTies = (total : ℕ) (ws : List ℕ) → NoLaterLarger total ws → shares LargerFirst total ws ≡ shares EarlierFirst total ws

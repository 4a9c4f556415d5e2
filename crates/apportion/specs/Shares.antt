-- Dividing a whole T by weights with sum W (document 01, "Dividing"): the largest-remainder method.
use Rattle.std.specs.Prelude.{Bool, true, false, List, [], ◌∷◌, map, ℕ, suc, ◌+◌, ◌*◌, ◌-◌, ◌/◌, ◌%◌, leb, ltb}
use Rattle.apportion.specs.declared.tie_rule.TieRule.{TieRule}
use Rattle.apportion.specs.declared.tie_rule.TieRule.TheVariants.{EarlierFirst, LargerFirst}

abbrev pub sum : List ℕ → ℕ
sum [] = 0
sum (x ∷ xs) = x + sum xs

-- T × w / W rounded down, and its remainder. A division by 0 gives 0, so with T = 0 and W = 0 all get 0.
abbrev pub quota : ℕ → ℕ → ℕ → ℕ
quota total whole w = total * w / whole

abbrev pub remainder : ℕ → ℕ → ℕ → ℕ
remainder total whole w = total * w % whole

abbrev pub quotas : ℕ → List ℕ → List ℕ
quotas total ws = map (quota total (sum ws)) ws

-- what the quotas leave of T
abbrev pub leftover : ℕ → List ℕ → ℕ
leftover total ws = total - sum (quotas total ws)

-- ---- the leftover goes one each to the largest keys, of equal keys to the earlier item
-- 1 for yes, 0 for no
abbrev pub bit : Bool → ℕ
bit true = 1
bit false = 0

-- how many of the keys are at least m
abbrev pub at_least : ℕ → List ℕ → ℕ
at_least m [] = 0
at_least m (k ∷ ks) = bit (leb m k) + at_least m ks

-- One for each item that fewer than `left` items precede. An earlier item precedes by a key that is as large, a later one by a larger key.
abbrev pub extras : ℕ → List ℕ → List ℕ → List ℕ
extras left earlier [] = []
extras left earlier (k ∷ later) = bit (ltb (at_least k earlier + at_least (suc k) later) left) ∷ extras left (k ∷ earlier) later

-- two lists added item by item
abbrev pub added : List ℕ → List ℕ → List ℕ
added [] ys = []
added (x ∷ xs) [] = x ∷ xs
added (x ∷ xs) (y ∷ ys) = (x + y) ∷ added xs ys

-- The rule that decides who gets the leftover: a key for an item, from T, W and the item's weight.
abbrev pub Key : Type 0
Key = ℕ → ℕ → ℕ → ℕ

unfoldable pub shares_by : Key → ℕ → List ℕ → List ℕ
shares_by key total ws = added (quotas total ws) (extras (leftover total ws) [] (map (key total (sum ws)) ws))

-- Remainder and weight as one number. No weight passes W, so the weight decides between equal remainders only (`larger_weight_first`, proofs/Laws.antt).
abbrev pub remainder_then_weight : Key
remainder_then_weight total whole w = remainder total whole w * (whole + 1) + w

-- On equal remainders the earlier item comes first (document 01), or the item of larger weight and then the earlier (2026-06).
abbrev pub key_by : TieRule → Key
key_by EarlierFirst = remainder
key_by LargerFirst = remainder_then_weight

-- T divided by the weights
abbrev pub shares : TieRule → ℕ → List ℕ → List ℕ
shares ties = shares_by (key_by ties)

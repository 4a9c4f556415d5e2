-- What the functions promise that round down and that choose, without sorting, who gets the leftover.
use Rattle.std.specs.Prelude.{Bool, true, false, ◌&&◌, ◌≡◌, List, [], ◌∷◌, map, filter, ℕ, suc, ◌+◌, ◌*◌, ◌-◌, ◌≤◌, ◌<◌, max, if◌then◌else◌, nat_le, nat_lt, ◌==◌, length, get_or, take}
use mathlib.Core.List.{zip_with}
use Rattle.apportion.specs.Shares.{sum, quota, remainder, bit, at_least}

-- the largest key, 0 if there is none
abbrev pub largest : List ℕ → ℕ
largest [] = 0
largest (k ∷ ks) = max k (largest ks)

-- the quotas, the remainders, the quotas' sum, the largest remainder and the number of remainders above 0
pub record RoundedDown (total whole : ℕ) (ws : List ℕ) (down top positive : ℕ) (rests out : List ℕ) : Type 0 where
  pub is-quotas : out ≡ map (quota total whole) ws
  pub is-remainders : rests ≡ map (remainder total whole) ws
  pub is_sum : down ≡ sum (map (quota total whole) ws)
  pub is-largest : top ≡ largest (map (remainder total whole) ws)
  pub is_positive : positive ≡ at_least 1 (map (remainder total whole) ws)

-- A count of the keys that reach m. No key lies from `below` up to m, nor from m up to `above`: the same keys reach all three.
pub record Counted (m lo hi count below above : ℕ) (ks : List ℕ) : Type 0 where
  pub is-count : count ≡ at_least m ks
  pub lo_le : lo ≤ below
  pub below_le : below ≤ m
  pub le_above : m ≤ above
  pub le_hi : above ≤ hi
  pub same-below : at_least below ks ≡ at_least m ks
  pub same_above : at_least above ks ≡ at_least m ks

-- at most `left` keys are above θ, and at least `left` reach it
abbrev pub Threshold : ℕ → ℕ → List ℕ → Type 0
Threshold left θ ks = (at_least (suc θ) ks ≤ left) × (left ≤ at_least θ ks)

-- a threshold, and how many are left for the keys that equal it
abbrev pub Cuts : ℕ → ℕ → ℕ → List ℕ → Type 0
Cuts left θ spare ks = (Threshold left θ ks) × (spare ≡ left - at_least (suc θ) ks)

-- the keys from lo up to hi, in their order
abbrev pub inside : ℕ → ℕ → List ℕ → List ℕ
inside lo hi ks = filter (λ k. nat_le lo k && nat_lt k hi) ks

-- the keys above a bracket counted, and those in it counted and, while there is room, written one after the other
pub record Collected (lo hi above within : ℕ) (near ks : List ℕ) : Type 0 where
  pub is_above_lem : above ≡ at_least hi ks
  pub is_within : within ≡ length (inside lo hi ks)
  pub is_near : within < 128 → take within near ≡ inside lo hi ks

-- one for a key above θ, and for a key at θ while there is one to spare
abbrev pub one : ℕ → ℕ → ℕ → ℕ
one θ spare k = if nat_lt θ k then 1 else if nat_le θ k then bit (nat_lt 0 spare) else 0

abbrev pub spare_after : ℕ → ℕ → ℕ → ℕ
spare_after θ spare k = if nat_lt θ k then spare else if nat_le θ k then spare - 1 else spare

abbrev pub given : ℕ → ℕ → List ℕ → List ℕ
given θ spare [] = []
given θ spare (k ∷ ks) = one θ spare k ∷ given θ (spare_after θ spare k) ks

-- one for a key that equals θ while there is one to spare
abbrev pub given_tie : Bool → ℕ → ℕ
given_tie true spare = bit (nat_lt 0 spare)
given_tie false spare = 0

-- what the keys that equal θ are given
abbrev pub given_ties : ℕ → ℕ → List ℕ → List ℕ
given_ties θ spare [] = []
given_ties θ spare (k ∷ ks) = given_tie (k == θ) spare ∷ given_ties θ (spare - given_tie (k == θ) spare) ks

-- ---- the weights at a threshold of the keys
-- an item's weight where its key is θ, else 0
abbrev pub weight_at : ℕ → ℕ → ℕ → ℕ
weight_at θ k w = if k == θ then w else 0

abbrev pub tied : ℕ → List ℕ → List ℕ → List ℕ
tied θ ks ws = zip_with (weight_at θ) ks ws

-- key and weight as one number, with no weight past `whole`
abbrev pub paired : ℕ → List ℕ → List ℕ → List ℕ
paired whole ks ws = zip_with (λ k w. k * (whole + 1) + w) ks ws

-- an item without a weight has no key above 0
abbrev pub NoneForNone : List ℕ → List ℕ → Type 0
NoneForNone ws ks = (j : ℕ) → get_or ws j 0 ≡ 0 → get_or ks j 0 ≡ 0

-- the weights at θ, the largest of them, and how many are above 0
pub record WeightsKept (θ : ℕ) (ws keys : List ℕ) (top positive : ℕ) (kept : List ℕ) : Type 0 where
  pub is-kept : kept ≡ tied θ keys ws
  pub is-largest : top ≡ largest (tied θ keys ws)
  pub is_positive : positive ≡ at_least 1 (tied θ keys ws)

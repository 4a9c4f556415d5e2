-- A list as far as it is written, number by number, and a statement with its energies.
use Rattle.std.specs.Prelude.{◌≡◌, List, [], ◌++◌, ℕ, zero, suc, ◌+◌, ◌*◌, ◌/◌, ◌%◌, ◌^◌, ◌≤◌, ◌<◌, length, get_or, take, drop}
use Rattle.apportion.specs.Shares.{sum}
use Rattle.month.specs.Steps.{shares_under}
use Rattle.month.specs.Month.{four_and_four}
use Rattle.sheet.specs.declared.rule_set.RuleSet.{RuleSet}

-- Numbers 0 to m − 1 are written, number k to place `at k`, and every other place is as before.
pub record Put (at : ℕ → ℕ) (m : ℕ) (number : ℕ → ℕ) (before after : List ℕ) : Type 0 where
  pub put : (k : ℕ) → k < m → get_or after (at k) 0 ≡ number k
  pub kept : (p : ℕ) → ((k : ℕ) → k < m → p ≡ at k → ⊥) → get_or after p 0 ≡ get_or before p 0

-- where energy k of the 4n stands in the statement, and its cents
abbrev pub energy_place : ℕ → ℕ
energy_place k = 8 * (k / 4) + k % 4

abbrev pub cost_place : ℕ → ℕ
cost_place k = 8 * (k / 4) + (4 + k % 4)

-- the energies of n units in a statement
unfoldable pub energies_in : ℕ → List ℕ → List ℕ
energies_in zero out = []
energies_in (suc n) out = take 4 out ++ energies_in n (drop 8 out)

-- a statement of n units with its energies, and a bill that can be divided over them
pub record Billed (n bill : ℕ) (out : List ℕ) : Type 0 where
  pub few : n ≤ 160
  pub room : length out ≡ 8 * n
  pub bill-fits : bill ≤ 400000000
  pub energies_fit : sum (energies_in n out) < 2 ^ 62
  pub divisible : sum (energies_in n out) ≡ 0 → bill ≡ 0

-- the statement with the cents beside the energies
abbrev pub with_costs : RuleSet → (n bill : ℕ) → List ℕ → List ℕ
with_costs rules n bill out =
    let es = energies_in n out in
    four_and_four n es (shares_under rules bill es)

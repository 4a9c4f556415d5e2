-- The columns as the code writes them.
use Rattle.std.specs.Prelude.{◌≡◌, List, ℕ, ◌+◌, ◌*◌, ◌^◌, ◌≤◌, ◌<◌, length}
use Rattle.apportion.specs.Shares.{sum}
use Rattle.charges.specs.declared.amounts.Amounts.{Amounts}

-- where unit i's number in a column stands
abbrev pub column_place : ℕ → ℕ → ℕ
column_place column i = 3 * i + column

-- weights to divide by, and a list of three numbers for each
pub record Chargeable (weights charges : List ℕ) : Type 0 where
  pub few : length weights ≤ 160
  pub positive : 0 < sum weights
  pub small : sum weights < 2 ^ 62
  pub room : length charges ≡ 3 * length weights

-- no amount is over its limit
pub record Within (a : Amounts) : Type 0 where
  pub power : a.power ≤ 100000000
  pub buyer : a.buyer ≤ 100000000
  pub supplier : a.supplier ≤ 100000000

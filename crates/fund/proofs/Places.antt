-- The place of every refusal of the calls is below 160. Assumes nothing.
use mathlib.Core.List.{List}
use Prim.Native.Nat.{ℕ, ◌<◌}
use native.Mathlib.Omega.{arith}
use Rattle.sheet.specs.Refusals.{place_of}
use Rattle.sheet.specs.Inner.Places.{PlaceBelow}
use Rattle.sheet.proofs.Places.{each_first, both-place}
use Rattle.month.specs.Month.{settle_rules}
use Rattle.month.proofs.Places.{settle-place}
use Rattle.fund.specs.Answer.{collect_rules, collect_answer, pay_answer}

pub collect_place : (balance : ℕ) (sheet : List ℕ) (rate : ℕ) → PlaceBelow 160 (collect_answer balance sheet rate)
unfolding collect_answer collect_rules
collect_place balance sheet rate = both-place 160 (settle_rules sheet) _ (settle-place sheet) (each_first (λ r. place_of r < 160) _ (omega arith, (omega arith, tt)))

pub pay_place : (balance amount : ℕ) → PlaceBelow 160 (pay_answer balance amount)
unfolding pay_answer
pay_place balance amount = each_first (λ r. place_of r < 160) _ (omega arith, tt)

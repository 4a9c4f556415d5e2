-- The place of every refusal of the call is below 160. Assumes nothing.
use mathlib.Core.List.{List}
use Prim.Native.Nat.{ℕ, ◌<◌}
use native.Mathlib.Omega.{arith}
use lib.ListN.{length}
use Rattle.sheet.specs.Refusals.{place_of}
use Rattle.sheet.specs.Layout.{sheet_of}
use Rattle.sheet.specs.Check.{sheet_rules}
use Rattle.sheet.specs.Inner.Places.{PlaceBelow}
use Rattle.sheet.proofs.Places.{each_first, both-place, sheet-place}
use Rattle.charges.specs.declared.amounts.Amounts.{Amounts}
use Rattle.charges.specs.Answer.{call_rules, charge_answer}

pub charge_place : (bytes : List ℕ) (model : ℕ) (a : Amounts) (list : List ℕ) → PlaceBelow 160 (charge_answer bytes model a list)
unfolding charge_answer call_rules
charge_place bytes model a list =
    both-place 160 (sheet_rules 32 bytes) (call_rules model a (sheet_of bytes) (length list)) (sheet-place 32 bytes)
    (each_first (λ r. place_of r < 160) (call_rules model a (sheet_of bytes) (length list)) (omega arith, (omega arith, (omega arith, (omega arith, tt)))))

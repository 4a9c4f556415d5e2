-- The place of every refusal of the settle call is below 160. Assumes nothing.
use Rattle.std.specs.Prelude.{if◌then◌else◌, Ok, Err}
use mathlib.Core.Bool.{Bool, true, false}
use mathlib.Core.List.{List}
use Prim.Native.Nat.{ℕ, ◌*◌}
use native.Mathlib.Omega.{arith}
use lib.Dec.{eqb}
use lib.ListN.{length}
use Rattle.sheet.specs.declared.refusal.Refusal.TheVariants.{BufferLength}
use Rattle.sheet.specs.Refusals.{Outcome, first_refusal}
use Rattle.sheet.specs.Inner.Places.{PlaceBelow}
use Rattle.sheet.specs.declared.rule_set.RuleSet.{RuleSet}
use Rattle.sheet.specs.Layout.{sheet_of}
use Rattle.month.specs.Month.{Month, month_of, settle_rules, unless_refused, settled_sheet}
use Rattle.month.proofs.Places.{settle-place}
use Rattle.settlement.specs.Settle.{answer_of, settle_answer}

-- 13 by a test of the list's length
pub length-place : (t : Bool) → PlaceBelow 160 (if t then Ok tt else Err BufferLength)
length-place true = tt
length-place false = omega arith

pub answer-place : (rules : RuleSet) (bytes list : List ℕ) → PlaceBelow 160 (settle_answer rules bytes list)
unfolding settle_answer settled_sheet
answer-place rules bytes list = go (first_refusal (settle_rules bytes)) (month_of rules (sheet_of bytes)) (settle-place bytes)
  where
    go : (o : Outcome) (m : Month) → PlaceBelow 160 o → PlaceBelow 160 (answer_of (unless_refused o m) (length list))
    go (Ok tt) m h = length-place (eqb (length list) (8 * m.unit_count))
    go (Err r) m h = h

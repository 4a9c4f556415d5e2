-- The place of every refusal of the book calls is below 160. Assumes nothing.
use mathlib.Core.Path.{◌≡◌, refl}
use mathlib.Core.Bool.{Bool, not}
use mathlib.Core.List.{List, [], ◌∷◌}
use Prim.Native.Nat.{ℕ, ◌-◌, ◌<◌}
use native.Mathlib.Omega.{arith}
use lib.Dec.{ltb}
use Rattle.sheet.specs.declared.refusal.Refusal.{Refusal}
use Rattle.sheet.specs.declared.refusal.Refusal.TheVariants.{BadYearBook, OtherBuilding, MonthState, NoSuchUnit, BadYearSums}
use Rattle.sheet.specs.Refusals.{Outcome, Rule, ◌⇒◌, first_refusal, place_of}
use Rattle.std.specs.Prelude.{Ok, Err}
use Rattle.sheet.specs.Inner.Places.{PlaceBelow}
use Rattle.sheet.specs.Layout.{sheet_of}
use Rattle.sheet.specs.Check.{sheet_rules}
use Rattle.sheet.proofs.Places.{place_rule, both-place, sheet-place}
use Rattle.month.specs.Month.{settle_rules}
use Rattle.month.proofs.Places.{settle-place}
use Rattle.yearbook.specs.Calls.{reply_of}
use Rattle.year_sums.specs.YearSums.{wrong_sums, bad_sums}
use Rattle.yearbook.specs.LentBook.{Lent, unit_count_in, place_of_month, marked, wrong_size, bad_book, other_building, block_in, block_of, zero_block, sheet_call_rules, open_answer, post_answer, replace_answer, withdraw_answer, year_rules, year_outcome}

-- a rule of place 0 in front, and the last one
module _ (t : Bool) (r : Refusal) (first : place_of r < 160) where
  ahead : (rules : List Rule) → PlaceBelow 160 (first_refusal rules) → PlaceBelow 160 (first_refusal ((t ⇒ r) ∷ rules))
  ahead rules f = place_rule 160 t r rules first (λ _. f)

  last : PlaceBelow 160 (first_refusal ((t ⇒ r) ∷ []))
  unfolding first_refusal
  last = ahead [] tt

pub open_place : (l : Lent) (sheet : List ℕ) → PlaceBelow 160 (open_answer l sheet)
unfolding open_answer
open_place l sheet =
    ahead (wrong_size l.book) BadYearBook (omega arith) _
    (both-place 160 (sheet_rules 32 sheet) ((wrong_sums l.sums ⇒ BadYearSums) ∷ []) (sheet-place 32 sheet) (last (wrong_sums l.sums) BadYearSums (omega arith)))

bring_place : (l : Lent) (sheet : List ℕ) (wrong : Bool) (old : List ℕ) → PlaceBelow 160 (first_refusal (sheet_call_rules l sheet wrong old))
unfolding sheet_call_rules
bring_place l sheet wrong old =
    ahead (bad_book l.book) BadYearBook (omega arith) _
    (both-place 160 (settle_rules sheet) _ (settle-place sheet)
    (ahead (other_building l.book (sheet_of sheet)) OtherBuilding (omega arith) _
    (ahead wrong MonthState (omega arith) _ (last (bad_sums l.sums old (block_of sheet)) BadYearSums (omega arith)))))

pub post-place : (l : Lent) (sheet : List ℕ) → PlaceBelow 160 (post_answer l sheet)
unfolding post_answer
post-place l sheet = bring_place l sheet (marked l.book (place_of_month sheet)) zero_block

pub replace-place : (l : Lent) (sheet : List ℕ) → PlaceBelow 160 (replace_answer l sheet)
unfolding replace_answer
replace-place l sheet = bring_place l sheet (not (marked l.book (place_of_month sheet))) (block_in l.book (place_of_month sheet))

pub withdraw-place : (l : Lent) (month : ℕ) → PlaceBelow 160 (withdraw_answer l month)
unfolding withdraw_answer
withdraw-place l month =
    ahead (bad_book l.book) BadYearBook (omega arith) _
    (ahead (ltb month 1) MonthState (omega arith) _
    (ahead (ltb 12 month) MonthState (omega arith) _
    (ahead (not (marked l.book (month - 1))) MonthState (omega arith) _
    (last (bad_sums l.sums (block_in l.book (month - 1)) zero_block) BadYearSums (omega arith)))))

pub year-place : (l : Lent) (place : ℕ) → PlaceBelow 160 (year_outcome l place)
unfolding year_outcome year_rules
year-place l place =
    ahead (bad_book l.book) BadYearBook (omega arith) _
    (ahead (not (ltb place (unit_count_in l.book))) NoSuchUnit (omega arith) _ (last (wrong_sums l.sums) BadYearSums (omega arith)))

-- a reply tells the outcome
pub same_outcome : (o p : Outcome) → reply_of o ≡ reply_of p → o ≡ p
same_outcome (Ok u) (Ok v) e = refl
same_outcome (Ok u) (Err r) e = absurd (let z : ◌≡◌ {A = ℕ} 0 1 = cc in omega arith)
same_outcome (Err r) (Ok u) e = absurd (let z : ◌≡◌ {A = ℕ} 0 1 = cc in omega arith)
same_outcome (Err r) (Err q) e = cc

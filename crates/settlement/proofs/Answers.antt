-- The answer for any bytes: 1 to 7, then 8 to 12; then 13. Assumes nothing.
use mathlib.Core.Path.{◌≡◌, refl, sym, ap, ◌∙◌}
use mathlib.Core.List.{List}
use Prim.Native.Nat.{ℕ, ◌*◌}
use native.Mathlib.Omega.{arith}
use borrow.Author.Tests.{eq-eqb, ne_eqb}
use lib.ListN.{length}
use Rattle.sheet.specs.declared.refusal.Refusal.{Refusal}
use Rattle.sheet.specs.declared.refusal.Refusal.TheVariants.{BufferLength}
use Rattle.sheet.specs.Refusals.{Outcome, first_refusal}
use Rattle.std.specs.Prelude.{Ok, Err}
use Rattle.sheet.proofs.Rules.{or_else}
use Rattle.sheet.specs.declared.rule_set.RuleSet.{RuleSet}
use Rattle.sheet.specs.Layout.{Sheet, sheet_of}
use Rattle.sheet.specs.Check.{checked}
use Rattle.month.specs.Month.{settled, statement_of, month_of, month_rules, settled_sheet, unless_refused}
use Rattle.month.proofs.Accepted.{settle-in_order}
use Rattle.settlement.specs.Settle.{answer_of, settle_answer, statement_after}
use Rattle.settlement.specs.Inner.Months.{month_answer, after_month}

-- ---- 1 to 12
pub settled-in_order : (rules : RuleSet) (bytes : List ℕ) → settled_sheet rules bytes ≡ unless_refused (or_else (checked 32 bytes) (first_refusal (month_rules (sheet_of bytes)))) (month_of rules (sheet_of bytes))
unfolding settled_sheet
settled-in_order rules bytes = ap (λ (o : Outcome). unless_refused o (month_of rules (sheet_of bytes))) (settle-in_order bytes)

-- ---- the calls: refused by 1 to 7, or as the month by itself
module _ (rules : RuleSet) (bytes list : List ℕ) where
  pub refused-sheet : (o : Outcome) (q : Refusal) → o ≡ checked 32 bytes → o ≡ Err q → (o ≡ settle_answer rules bytes list) × (list ≡ statement_after rules bytes list)
  unfolding settle_answer statement_after
  refused-sheet o q is e = rw (settled-in_order rules bytes, sym is ∙ e, e) (refl, refl)

  module _ (passed : checked 32 bytes ≡ Ok tt) where
    pub by_month : (month_answer rules (sheet_of bytes) list ≡ settle_answer rules bytes list) × (after_month rules (sheet_of bytes) list ≡ statement_after rules bytes list)
    unfolding settle_answer statement_after month_answer after_month
    by_month = rw (settled-in_order rules bytes, passed) (refl, refl)

    pub settles : first_refusal (month_rules (sheet_of bytes)) ≡ Ok tt → settled_sheet rules bytes ≡ settled (month_of rules (sheet_of bytes))
    settles e = settled-in_order rules bytes ∙ rw (passed, e)

-- ---- 13
module _ (rules : RuleSet) (s : Sheet) (list : List ℕ) (o : Outcome) (is : o ≡ first_refusal (month_rules s)) where
  pub refused-month : (q : Refusal) → o ≡ Err q → (o ≡ month_answer rules s list) × (list ≡ after_month rules s list)
  unfolding month_answer after_month
  refused-month q e = rw (sym is ∙ e, e) (refl, refl)

  module _ (ok : o ≡ Ok tt) (n : ℕ) (count : n ≡ s.unit_count) where
    pub wrong_length : (length list ≡ 8 * n → ⊥) → (Err BufferLength ≡ month_answer rules s list) × (list ≡ after_month rules s list)
    unfolding month_answer after_month month_of
    wrong_length h = rw (sym is ∙ ok, ne_eqb (length list) (8 * s.unit_count) (λ e. h (omega arith))) (refl, refl)

    pub written : length list ≡ 8 * n → (out : List ℕ) → out ≡ statement_of rules s → (Ok tt ≡ month_answer rules s list) × (out ≡ after_month rules s list)
    unfolding month_answer after_month month_of
    written h out e = rw (sym is ∙ ok, eq-eqb (length list) (8 * s.unit_count) (omega arith)) (refl, e)

-- ---- a list of 8n numbers: what `settle_checked` answers and writes
module _ (rules : RuleSet) (s : Sheet) (list : List ℕ) (room : length list ≡ 8 * s.unit_count) where
  fitting : (o : Outcome) → answer_of (unless_refused o (month_of rules s)) (length list) ≡ o
  unfolding month_of
  fitting (Ok tt) = rw (eq-eqb (length list) (8 * s.unit_count) room)
  fitting (Err r) = refl

  pub answer-is : month_answer rules s list ≡ first_refusal (month_rules s)
  unfolding month_answer
  answer-is = fitting (first_refusal (month_rules s))

  pub statement-is : month_answer rules s list ≡ Ok tt → after_month rules s list ≡ statement_of rules s
  unfolding after_month month_of
  statement-is ok = rw (sym answer-is ∙ ok, eq-eqb (length list) (8 * s.unit_count) room)

-- What is answered of a text, and what becomes of the list. Assumes nothing.
use mathlib.Core.Path.{◌≡◌, refl, sym, ap, subst, ◌∙◌}
use mathlib.Core.List.{List, ◌++◌}
use Prim.Native.Nat.{ℕ, ◌*◌, ◌≤◌, ◌<◌}
use native.Mathlib.Omega.{arith}
use borrow.Author.Tests.{le-leb, lt-leb}
use lib.ListN.{length, take, drop, take-append-drop}
use lib.Seq.{take-append_seam}
use Rattle.sheet.specs.declared.refusal.Refusal.{Refusal}
use Rattle.std.specs.Prelude.{Result, Ok, Err}
use Rattle.sheet.specs.RuleSets.{newest}
use Rattle.sheet.specs.Layout.{sheet_of}
use Rattle.sheet.specs.Check.{checked}
use Rattle.month.specs.Month.{Month, Settled, refused, settled, statement_of, month_of, settled_sheet}
use Rattle.month.proofs.Accepted.{accepted}
use Rattle.month.proofs.Laws.{settled-month as month-is}
use Rattle.settlement.specs.Inner.Months.{month_answer, after_month}
use Rattle.settlement.proofs.Answers.{settled-in_order, answer-is, settles, statement-is}
use Rattle.printing.specs.Printed.{text_of, printed, longest, at_front}
use Rattle.printing.specs.declared.settled.SettledMonth.{SettledMonth}
use Rattle.printing.specs.Inner.Placed.{Placed}
use Rattle.printing.specs.Inner.Outcomes.{settled_in}
use Rattle.printing.proofs.Lines.{refusal_short}

module _ (text list : List ℕ) where
  pub list-too_short : length list < length text → list ≡ at_front text list
  unfolding at_front
  list-too_short h = rw (lt-leb (length text) (length list) h)

  pub put-at_front : {after : List ℕ} {end : ℕ} → length text ≤ length list → Placed text list 0 after end → after ≡ at_front text list
  unfolding at_front
  put-at_front {after} {end} h p =
      let e : end ≡ length text = omega (arith, p.ends) in
      rw (le-leb (length text) (length list) h) (sym (take-append-drop end after) ∙ (λ i. p.front i ++ p.rest i) ∙ ap (λ (k : ℕ). text ++ drop k list) e)

pub outcome_short : (o : Result SettledMonth Refusal) → length (text_of (settled_in o)) ≤ longest (settled_in o)
outcome_short (Ok month) = month.short
outcome_short (Err r) = refusal_short r

pub outcome_fits : (o : Result SettledMonth Refusal) → longest (settled_in o) ≤ 15889
unfolding month_of
outcome_fits (Ok month) = omega (arith, month.sheet.fits.header.unit_count)
outcome_fits (Err r) = omega arith

-- what is answered and left of what the bytes settle to
module _ (bytes : List ℕ) (x : Settled) (is : x ≡ settled_sheet newest bytes) where
  pub printed-long : {k : ℕ} → (k ≡ length (text_of x)) × (k ≤ longest x) → (k ≡ length (printed bytes)) × (k ≤ longest (settled_sheet newest bytes))
  unfolding printed
  printed-long {k} h = subst (λ (y : Settled). (k ≡ length (text_of y)) × (k ≤ longest y)) is h

  pub printed-at_front : {after : List ℕ} (list : List ℕ) → after ≡ at_front (text_of x) list → after ≡ at_front (printed bytes) list
  unfolding printed
  printed-at_front list h = h ∙ ap (λ (y : Settled). at_front (text_of y) list) is

-- ---- which text: 1 to 7, then 8 to 12 by way of a list of 8n numbers
pub refused-sheet : (bytes : List ℕ) (r : Refusal) → checked 32 bytes ≡ Err r → settled_sheet newest bytes ≡ refused r
refused-sheet bytes r e = rw (settled-in_order newest bytes, e)

module _ (bytes list : List ℕ) (passed : checked 32 bytes ≡ Ok tt) (room : length list ≡ 8 * (sheet_of bytes).unit_count) where
  pub refused-month : (r : Refusal) → month_answer newest (sheet_of bytes) list ≡ Err r → settled_sheet newest bytes ≡ refused r
  refused-month r e = rw (settled-in_order newest bytes, passed, sym (answer-is newest (sheet_of bytes) list room) ∙ e)

  module _ (ok : month_answer newest (sheet_of bytes) list ≡ Ok tt) where
    pub settled-month : settled_sheet newest bytes ≡ settled (month_of newest (sheet_of bytes))
    settled-month = settles newest bytes list passed (sym (answer-is newest (sheet_of bytes) list room) ∙ ok)

    pub statement : {after : List ℕ} → after ≡ after_month newest (sheet_of bytes) list → after ≡ statement_of newest (sheet_of bytes)
    statement e = e ∙ statement-is newest (sheet_of bytes) list room ok

-- ---- a list of 15,889 bytes has room for every text
pub room_for_all : (bytes : List ℕ) → longest (settled_sheet newest bytes) ≤ 15889
unfolding month_of
room_for_all bytes = go (settled_sheet newest bytes) refl
  where
    go : (x : Settled) → settled_sheet newest bytes ≡ x → longest x ≤ 15889
    go (refused r) e = omega arith
    go (settled m) e =
        let is = month-is newest bytes m e in
        omega (arith, ap (λ (m : Month). m.unit_count) is.1, (accepted bytes is.0).checked-sheet.header.unit_count)

pub front-is : (text list : List ℕ) → length text ≤ length list → take (length text) (at_front text list) ≡ text
unfolding at_front
front-is text list h = rw (le-leb (length text) (length list) h) (take-append_seam text (drop (length text) list))

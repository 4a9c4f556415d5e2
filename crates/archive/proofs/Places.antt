-- The place of every refusal of the writer and the reader is below 160, and how long the reader's part is. Assumes nothing.
use mathlib.Core.Path.{◌≡◌, refl}
use mathlib.Core.Bool.{not}
use mathlib.Core.List.{List, [], ◌∷◌}
use Prim.Native.Nat.{ℕ, ◌+◌, ◌*◌}
use native.Mathlib.Omega.{arith}
use lib.Dec.{eqb}
use lib.ListN.{length, take, drop}
use lib.Seq.{length-take-le}
use Rattle.sheet.specs.declared.refusal.Refusal.TheVariants.{BadArchive}
use Rattle.sheet.specs.Refusals.{Outcome, ◌⇒◌, first_refusal}
use Rattle.std.specs.Prelude.{Option, None, Some, Ok, Err}
use Rattle.sheet.specs.Inner.Places.{PlaceBelow}
use Rattle.sheet.specs.declared.rule_set.RuleSet.{RuleSet}
use Rattle.sheet.specs.RuleSets.{newest}
use Rattle.sheet.specs.Layout.{sheet_of, in_bytes}
use Rattle.sheet.specs.Check.{same_list, sheet_rules}
use Rattle.sheet.proofs.Places.{place_rule, both-place, sheet-place}
use Rattle.month.specs.Month.{Month, month_of, statement_of, settle_rules, unless_refused, settled_sheet, month_rules}
use Rattle.month.proofs.Places.{month-place, settle-place}
use Rattle.settlement.proofs.Places.{length-place}
use Rattle.archive.specs.Writer.{answer_of, write_answer}
use Rattle.archive.specs.Reader.{body, sheet_length, head_of, body_rules, read_rules, read_outcome, start_of, count_of}
use Rattle.sheet.proofs.Inside.{all-length}
use Rattle.archive.proofs.RoundTrip.{checked-body}

pub read-place : (bytes : List ℕ) → PlaceBelow 160 (read_outcome bytes)
unfolding read_outcome read_rules body_rules first_refusal
read-place bytes = go (head_of bytes)
  where
    go : (h : Option RuleSet) → PlaceBelow 160 (first_refusal (read_rules h bytes))
    go None = omega arith
    go (Some rules) =
        let b = body bytes in
        let s = sheet_of b in
        let wrong = not (same_list (drop (48 + 32 * s.unit_count) b) (in_bytes (statement_of rules s))) in
        both-place 160 (sheet_rules 64 b) (body_rules rules b) (sheet-place 64 b)
        (both-place 160 (month_rules s) ((wrong ⇒ BadArchive) ∷ []) (month-place s) (place_rule 160 wrong BadArchive [] (omega arith) (λ _. tt)))

pub write_place : (sheet list : List ℕ) → PlaceBelow 160 (write_answer sheet list)
unfolding write_answer settled_sheet
write_place sheet list = go (first_refusal (settle_rules sheet)) (month_of newest (sheet_of sheet)) (settle-place sheet)
  where
    go : (o : Outcome) (m : Month) → PlaceBelow 160 o → PlaceBelow 160 (answer_of (unless_refused o m) (length list))
    go (Ok tt) m h = length-place (eqb (length list) (56 + 64 * m.unit_count))
    go (Err r) m h = h

-- the part that the reader hands back is as long as it says
pub part_length : (bytes : List ℕ) → length (take (count_of (read_outcome bytes) bytes) (drop (start_of (read_outcome bytes)) bytes)) ≡ count_of (read_outcome bytes) bytes
part_length bytes = go (read_outcome bytes) refl
  where
    go : (o : Outcome) → read_outcome bytes ≡ o → length (take (count_of o bytes) (drop (start_of o) bytes)) ≡ count_of o bytes
    go (Ok tt) e = length-take-le (sheet_length bytes) (drop 8 bytes) (omega (arith, all-length (body bytes) (checked-body bytes e)))
    go (Err r) e = refl

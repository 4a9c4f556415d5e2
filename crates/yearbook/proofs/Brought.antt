-- What post and replace know of a sheet once it is settled. Assumes nothing.
use mathlib.Core.Path.{◌≡◌, refl, sym, ap, ap₂, ◌∙◌}
use mathlib.Core.Bool.{Bool}
use mathlib.Core.List.{List, ◌++◌}
use Prim.Native.Nat.{ℕ, ◌+◌, ◌*◌, ◌-◌, ◌≤◌}
use native.Mathlib.Omega.{arith}
use borrow.Author.Tests.{eq-eqb}
use lib.ListN.{length, take, drop, replicate, get_or-eq_default, length-replicate}
use lib.Seq.{length-take-le}
use Rattle.std.specs.Prelude.{Ok, Err, MatchResult}
use Rattle.std.proofs.lemmas.List.{drop-replicate}
use Rattle.sheet.specs.declared.refusal.Refusal.{Refusal}
use Rattle.sheet.specs.Refusals.{Outcome, first_refusal}
use Rattle.sheet.specs.RuleSets.{newest}
use Rattle.sheet.specs.Layout.{sheet_of}
use Rattle.month.specs.Month.{Settled, bill_cents, month_of, statement_of, settle_rules, settled_sheet}
use Rattle.settlement.specs.Settle.{settle_answer, statement_after}
use Rattle.year_sums.specs.Inner.Update.{Blocks}
use Rattle.yearbook.specs.declared.bring.Entry.{Entry}
use Rattle.yearbook.specs.declared.bring.Entry.TheVariants.{Post, Replace}
use Rattle.yearbook.specs.LentBook.{block_length, place_of_month, marked, block_in, put_month, put_sheet}
use Rattle.yearbook.specs.Inner.Bring.{wrong_state, wrong_month, old_block, taken_off, Settles}
use Rattle.yearbook.proofs.Stores.{zeros-after}
use Rattle.yearbook.proofs.Settled.{sheet-refused, own-month, statement-length, block_length_lem}

-- ---- a sheet is settled into the front of a block of zeros
abbrev pub front_of : ℕ → List ℕ
front_of n = take (8 * n) (replicate block_length 0)

module _ (sheet : List ℕ) (n : ℕ) (few : n ≤ 160) (count : n ≡ (sheet_of sheet).unit_count) where
  front-length : length (front_of n) ≡ 8 * n
  front-length = length-take-le (8 * n) (replicate block_length 0) (omega (arith, length-replicate {A = ℕ} block_length 0))

  when-refused : (r : Refusal) → settled_sheet newest sheet ≡ Settled.refused r → settle_answer newest sheet (front_of n) ≡ Err r
  unfolding settle_answer
  when-refused r e = rw e

  when-settled : settled_sheet newest sheet ≡ Settled.settled (month_of newest (sheet_of sheet))
      → (settle_answer newest sheet (front_of n) ≡ Ok tt) × (statement_after newest sheet (front_of n) ≡ statement_of newest (sheet_of sheet))
  unfolding settle_answer statement_after month_of
  when-settled e = rw (e, eq-eqb (length (front_of n)) (8 * (sheet_of sheet).unit_count) (omega (arith, front-length))) (refl, refl)

  front-refused : (r : Refusal) → settle_answer newest sheet (front_of n) ≡ Err r → first_refusal (settle_rules sheet) ≡ Err r
  front-refused r h = go (settled_sheet newest sheet) refl
    where
      go : (s : Settled) → settled_sheet newest sheet ≡ s → first_refusal (settle_rules sheet) ≡ Err r
      go (Settled.refused q) e = sheet-refused sheet q e ∙ sym (when-refused q e) ∙ h
      go (Settled.settled m) e = cc (h, (when-settled (own-month sheet e)).0)

  front-settled : Ok tt ≡ settle_answer newest sheet (front_of n) → (front : List ℕ) → front ≡ statement_after newest sheet (front_of n)
      → Settles sheet (front ++ drop (8 * n) (replicate block_length 0))
  front-settled h front written = go (settled_sheet newest sheet) refl
    where
      go : (s : Settled) → settled_sheet newest sheet ≡ s → Settles sheet (front ++ drop (8 * n) (replicate block_length 0))
      go (Settled.refused q) e = cc (h, when-refused q e)
      go (Settled.settled m) e =
          let own = own-month sheet e in
          record {
            settles = own;
            block-is = ap₂ (λ (x y : List ℕ). x ++ y) (written ∙ (when-settled own).1) (drop-replicate (8 * n) block_length 0 ∙ ap (λ (k : ℕ). replicate (block_length - 8 * k) 0) count);
          }

  pub block-settled : (o : Outcome) → o ≡ settle_answer newest sheet (front_of n) → (front : List ℕ) → front ≡ statement_after newest sheet (front_of n)
      → MatchResult o (λ done. Settles sheet (front ++ drop (8 * n) (replicate block_length 0))) (λ r. first_refusal (settle_rules sheet) ≡ Err r)
  block-settled (Ok done) h front written = front-settled h front written
  block-settled (Err r) h front written = front-refused r (sym h)

-- ---- the place of a sheet's month, 17, and what a call takes off, as code finds them
pub placed : (sheet : List ℕ) {month place : ℕ} → month ≡ (sheet_of sheet).month → month ≡ place + 1 → place ≡ place_of_month sheet
placed sheet e f = omega (arith, e, f)

module _ (entry : Entry) (b sheet : List ℕ) {place : ℕ} (place-is : place ≡ place_of_month sheet) where
  pub state_is : {stands wrong : Bool} → stands ≡ marked b place → wrong ≡ wrong_state entry stands → wrong_month entry b sheet ≡ wrong
  state_is e f = rw (f, e, place-is)

  pub off_is : {stored old : List ℕ} → stored ≡ block_in b place → old ≡ old_block entry stored → old ≡ taken_off entry b sheet
  off_is e f = rw (f, e, place-is)

pub old-full : (entry : Entry) (stored : List ℕ) → length stored ≡ block_length → length (old_block entry stored) ≡ block_length
old-full Post stored e = length-replicate {A = ℕ} block_length 0
old-full Replace stored e = e

-- ---- the new block, and its write
module _ {sheet block : List ℕ} (f : Settles sheet block) where
  pub settles_full : length block ≡ block_length
  settles_full = rw f.block-is (block_length_lem sheet f.settles)

  pub settles_blocks : (n : ℕ) → n ≤ 160 → n ≡ (sheet_of sheet).unit_count → (old : List ℕ) → length old ≡ block_length → Blocks old n block
  settles_blocks n few count old full = record {
    old-full = full;
    few = few;
    full = settles_full;
    rest = λ k l. rw f.block-is (zeros-after (statement_of newest (sheet_of sheet)) (block_length - 8 * (sheet_of sheet).unit_count) k
        ∙ get_or-eq_default (statement_of newest (sheet_of sheet)) 0 (omega (arith, statement-length sheet f.settles)));
  }

  pub settles_write : (b : List ℕ) (place meter bill : ℕ) → place ≡ place_of_month sheet → meter ≡ (sheet_of sheet).shared_meter → bill ≡ bill_cents (sheet_of sheet)
      → put_month b place 1 meter bill block ≡ put_sheet b sheet
  unfolding put_sheet
  settles_write b place meter bill d e g = rw (d, e, g, f.block-is)

-- Rules one after the other: which of two lists decides, and rule k of a list. Assumes nothing.
use native.Mathlib.Omega.{arith}
use mathlib.Core.Path.{◌≡◌, refl, sym, ap, ◌∙◌}
use mathlib.Core.Bool.{Bool, true, false}
use mathlib.Core.List.{List, [], ◌∷◌, ◌++◌}
use Prim.Native.Nat.{ℕ, ◌+◌, ◌≤◌, ◌<◌}
use native.Mathlib.Numerals.{add-one}
use lib.ListN.{length, get_or, drop, drop_of_length-le}
use lib.Seq.{drop-cons}
use Rattle.sheet.specs.declared.refusal.Refusal.{Refusal}
use Rattle.sheet.specs.Refusals.{Outcome, Rule, ◌⇒◌, first_refusal, outcome_of}
use Rattle.std.specs.Prelude.{Ok, Err, IsErrAnd, Result, IsOk}

-- ---- two lists
abbrev pub or_else : Outcome → Outcome → Outcome
or_else (Ok tt) o = o
or_else (Err r) o = Err r

pub first_of_both : (xs ys : List Rule) → first_refusal (xs ++ ys) ≡ or_else (first_refusal xs) (first_refusal ys)
unfolding first_refusal
first_of_both [] ys = refl
first_of_both ((true ⇒ r) ∷ xs) ys = refl
first_of_both ((false ⇒ r) ∷ xs) ys = first_of_both xs ys

module _ (xs ys : List Rule) where
  pub first-refused : {r : Refusal} → first_refusal xs ≡ Err r → first_refusal (xs ++ ys) ≡ Err r
  first-refused e = first_of_both xs ys ∙ ap (λ (o : Outcome). or_else o (first_refusal ys)) e

  pub first-accepted : first_refusal xs ≡ Ok tt → first_refusal (xs ++ ys) ≡ first_refusal ys
  first-accepted e = first_of_both xs ys ∙ ap (λ (o : Outcome). or_else o (first_refusal ys)) e

-- ---- the rules from k on: rule k doesn't hold, holds, or there is none
module _ (rules : List Rule) (k : ℕ) (d : Rule) (t : Bool) (r : Refusal) (h : k < length rules) (is : get_or rules k d ≡ (t ⇒ r)) where
  pub rules-more : t ≡ false → first_refusal (drop (k + 1) rules) ≡ first_refusal (drop k rules)
  unfolding first_refusal
  rules-more e = rw add-one (sym (ap first_refusal (drop-cons rules k d h) ∙ rw (is, e)))

  pub rules_fault : t ≡ true → first_refusal (drop k rules) ≡ Err r
  unfolding first_refusal
  rules_fault e = ap first_refusal (drop-cons rules k d h) ∙ rw (is, e)

pub rules-end : (rules : List Rule) (k : ℕ) → length rules ≤ k → first_refusal (drop k rules) ≡ Ok tt
unfolding first_refusal
rules-end rules k h = ap first_refusal (drop_of_length-le rules h)

-- ---- a `?` hands on the call's own refusal
pub handed : {A E : Type 0} (answer : Result A E) (e : E) → IsErrAnd answer (λ (q : E). q ≡ e) → answer ≡ Err e
handed (Ok x) e h = absurd h
handed (Err q) e h = ap Err h

pub handed_on : (answer call : Outcome) (r : Refusal) → IsErrAnd answer (λ (q : Refusal). q ≡ r) → call ≡ Err r → answer ≡ call
handed_on answer call r h e = handed answer r h ∙ sym e

-- an answer with a value, by its outcome
pub brings : {A : Type 0} (answer : Result A Refusal) → outcome_of answer ≡ Ok tt → IsOk answer
brings (Ok x) e = refl
brings (Err r) e = absurd (let z : ◌≡◌ {A = ℕ} 0 1 = cc in omega arith)

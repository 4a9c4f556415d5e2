-- A list whose items are replaced from the front, each by a number made of it and of the item beside it in another list. Assumes nothing.
use mathlib.Core.Path.{◌≡◌, refl, sym, ap, ◌∙◌}
use mathlib.Core.List.{List, zip_with}
use Prim.Native.Nat.{ℕ, ◌+◌, ◌≤◌, ◌<◌}
use native.Mathlib.Omega.{arith}
use borrow.Author.Count.{below_none, below_more}
use lib.ListN.{length, get_or, set}
use lib.Seq.{get_or-set_same, get_or-set_other, ext_get_or}
use Rattle.apportion.proofs.Zips.{zip_length, zip_at}

-- i items are replaced, the others are those of the start
pub record Replaced (f : ℕ → ℕ → ℕ) (start ys : List ℕ) (i : ℕ) (xs : List ℕ) : Type 0 where
  pub done : (k : ℕ) → k < i → get_or xs k 0 ≡ f (get_or start k 0) (get_or ys k 0)
  pub rest : (k : ℕ) → i ≤ k → get_or xs k 0 ≡ get_or start k 0

module _ (f : ℕ → ℕ → ℕ) (start ys : List ℕ) where
  pub none-replaced : Replaced f start ys 0 start
  none-replaced = record { done = below_none _; rest = λ k h. refl }

  pub one-replaced : (i v : ℕ) (xs : List ℕ) → i < length xs → v ≡ f (get_or xs i 0) (get_or ys i 0) → Replaced f start ys i xs → Replaced f start ys (i + 1) (set xs i v)
  one-replaced i v xs h e r =
      let here = get_or-set_same xs i v 0 h ∙ e ∙ ap (λ (x : ℕ). f x (get_or ys i 0)) (r.rest i (omega arith)) in
      record {
        done = below_more (λ k. get_or (set xs i v) k 0 ≡ f (get_or start k 0) (get_or ys k 0)) i (λ k l. get_or-set_other xs i k v 0 (λ q. omega arith) ∙ r.done k l) here;
        rest = λ k l. get_or-set_other xs i k v 0 (λ q. omega arith) ∙ r.rest k (omega arith);
      }

  pub all-replaced : (i : ℕ) (xs : List ℕ) → length start ≤ i → length xs ≡ length start → length start ≡ length ys → Replaced f start ys i xs → xs ≡ zip_with f start ys
  all-replaced i xs h l e r = ext_get_or 0 xs (zip_with f start ys) (l ∙ sym (zip_length f start ys (omega arith))) (λ k less. r.done k (omega arith) ∙ sym (zip_at f start ys k 0 0 0 (omega arith) (omega arith)))

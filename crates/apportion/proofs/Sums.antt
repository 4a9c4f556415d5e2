-- A sum is std's. Assumes nothing.
use mathlib.Core.Path.{◌≡◌, refl, sym}
use mathlib.Core.List.{List}
use Prim.Native.Nat.{ℕ}
use Rattle.std.specs.List as std
use Rattle.std.proofs.lemmas.List.Recursion.{is_sum_by}
use Rattle.apportion.specs.Shares.{sum}

pub sum_is : (xs : List ℕ) → std.sum xs ≡ sum xs
sum_is xs = sym (is_sum_by sum (λ x. x) refl (λ _ _. refl) xs)

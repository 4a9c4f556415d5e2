-- Two lists item by item. Assumes nothing.
use mathlib.Core.Path.{◌≡◌, refl, ap}
use mathlib.Core.List.{List, [], ◌∷◌, zip_with}
use Prim.Native.Nat.{ℕ, zero, suc, ◌≤◌, ◌<◌}
use native.Mathlib.Omega.{arith}
use lib.ListN.{length, get_or}

pub zip_length : {A B C : Type 0} (f : A → B → C) (xs : List A) (ys : List B) → length xs ≤ length ys → length (zip_with f xs ys) ≡ length xs
unfolding zip_with
zip_length f [] ys h = refl
zip_length f (x ∷ xs) [] h = absurd (omega arith)
zip_length f (x ∷ xs) (y ∷ ys) h = ap suc (zip_length f xs ys (omega arith))

pub zip_at : {A B C : Type 0} (f : A → B → C) (xs : List A) (ys : List B) (i : ℕ) (a : A) (b : B) (c : C) → i < length xs → i < length ys
    → get_or (zip_with f xs ys) i c ≡ f (get_or xs i a) (get_or ys i b)
unfolding zip_with
zip_at f [] ys i a b c h l = absurd (omega arith)
zip_at f (x ∷ xs) [] i a b c h l = absurd (omega arith)
zip_at f (x ∷ xs) (y ∷ ys) zero a b c h l = refl
zip_at f (x ∷ xs) (y ∷ ys) (suc i) a b c h l = zip_at f xs ys i a b c (omega arith) (omega arith)

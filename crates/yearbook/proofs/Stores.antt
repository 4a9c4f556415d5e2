-- Reading a list after writes. Assumes nothing.
use mathlib.Core.Path.{◌≡◌, refl, ap, sym, ◌∙◌}
use mathlib.Core.List.{List, [], ◌∷◌, ◌++◌}
use Prim.Native.Nat.{ℕ, zero, suc, ◌+◌, ◌-◌, ◌≤◌, ◌<◌}
use native.Mathlib.Omega.{arith}
use native.Mathlib.Nat.{add-zero, add-suc, suc-add}
use borrow.Rule.Slice.PartMut.{put_mid, Post-is}
use mathlib.Core.List.{append_assoc}
use lib.ListN.{length, get_or, set, take, drop, replicate, length-set}
use lib.Seq.{sets, get_or-set_same, get_or-set_other}
use Rattle.std.proofs.lemmas.List.Edits.{sets-eq}
use Rattle.year_sums.proofs.Lists.{zero-at}

-- ---- a run of writes: the places below it, above it, in it
pub get_d_sets_below : (vs l : List ℕ) (i k : ℕ) → k < i → get_or (sets l i vs) k 0 ≡ get_or l k 0
get_d_sets_below [] l i k h = refl
get_d_sets_below (a ∷ vs) l i k h = get_d_sets_below vs (set l i a) (suc i) k (omega arith) ∙ get_or-set_other l i k a 0 (omega arith)

pub get_d_sets_above : (vs l : List ℕ) (i k : ℕ) → i + length vs ≤ k → get_or (sets l i vs) k 0 ≡ get_or l k 0
get_d_sets_above [] l i k h = refl
get_d_sets_above (a ∷ vs) l i k h = get_d_sets_above vs (set l i a) (suc i) k (omega arith) ∙ get_or-set_other l i k a 0 (omega arith)

pub get_d_sets_in : (vs l : List ℕ) (i j : ℕ) → j < length vs → i + length vs ≤ length l → get_or (sets l i vs) (i + j) 0 ≡ get_or vs j 0
get_d_sets_in [] l i j h f = absurd (omega arith)
get_d_sets_in (a ∷ vs) l i zero h f =
    ap (λ (k : ℕ). get_or (sets (set l i a) (suc i) vs) k 0) (add-zero i)
    ∙ get_d_sets_below vs (set l i a) (suc i) i (omega arith)
    ∙ get_or-set_same l i a 0 (omega arith)
get_d_sets_in (a ∷ vs) l i (suc j) h f =
    ap (λ (k : ℕ). get_or (sets (set l i a) (suc i) vs) k 0) (add-suc i j ∙ sym (suc-add i j))
    ∙ get_d_sets_in vs (set l i a) (suc i) j (omega arith) (rw length-set (omega arith))

-- ---- a part of a list that code writes whole
pub part-written : (vs l : List ℕ) (a e : ℕ) → a + length vs ≡ e → e ≤ length l → put_mid a (e - a) l vs ≡ sets l a vs
part-written vs l a e h fits = ap (λ (z : List ℕ). take a l ++ (vs ++ z)) (Post-is a e l (omega arith) ∙ ap (λ (n : ℕ). drop n l) (sym h)) ∙ sym (sets-eq vs l a (omega arith) ∙ append_assoc (take a l) vs (drop (a + length vs) l))

-- ---- numbers with zeros after them
pub zeros-after : (xs : List ℕ) (n x : ℕ) → get_or (xs ++ replicate n 0) x 0 ≡ get_or xs x 0
zeros-after [] n x = zero-at n x
zeros-after (y ∷ xs) n zero = refl
zeros-after (y ∷ xs) n (suc x) = zeros-after xs n x

-- Sums over the months, over the units, and both; nearness of a sum. Assumes nothing.
use mathlib.Core.Path.{◌≡◌, refl, sym, ap, subst, ◌∙◌}
use mathlib.Core.List.{List, [], ◌∷◌, map}
use mathlib.Core.Option.{Option, none, some}
use Prim.Native.Nat.{ℕ, zero, suc, ◌+◌, ◌*◌, ◌≤◌, ◌<◌}
use native.Mathlib.Omega.{arith}
use lib.ListN.{length, get_or, take, drop, length-take, length-drop}
use lib.Seq.{get_or-take, get_or-drop, ext_get_or}
use Rattle.apportion.specs.Shares.{sum}
use Rattle.sheet.specs.Tests.{Each}
use Rattle.month.specs.Fraction.{Fraction, Near, sumᶠ}
use Rattle.month.specs.Laws.{sum_to}
use Rattle.month.proofs.Nearness.{near_add, near_zero}
use Rattle.month.proofs.Lists.{sum_to-front}
use Rattle.yearbook.specs.Calls.{eight}
use Rattle.yearbook.specs.PlainBook.{sheets_of}

-- a number of what a month holds, 0 for nothing
abbrev pub or_zero : (List ℕ → ℕ) → Option (List ℕ) → ℕ
or_zero f none = 0
or_zero f (some sheet) = f sheet

-- a fact of what a month holds
abbrev pub IfHeld : (List ℕ → Type 0) → Option (List ℕ) → Type 0
IfHeld P none = Unit {0}
IfHeld P (some sheet) = P sheet

pub sum_to-zeros : (k : ℕ) → sum_to k (λ i. 0) ≡ 0
unfolding sum_to
sum_to-zeros zero = refl
sum_to-zeros (suc k) = omega (arith, sum_to-zeros k)

sum_to_add : (k : ℕ) (f g : ℕ → ℕ) → sum_to k (λ i. f i + g i) ≡ sum_to k f + sum_to k g
unfolding sum_to
sum_to_add zero f g = omega arith
sum_to_add (suc k) f g = omega (arith, sum_to_add k f g)

-- over the months and over the sheets that they hold
pub sum-held : (months : List (Option (List ℕ))) (f : List ℕ → ℕ) → sum_to (length months) (λ i. or_zero f (get_or months i none)) ≡ sum (map f (sheets_of months))
unfolding sum_to sheets_of
sum-held [] f = refl
sum-held (none ∷ months) f = omega (arith, sum_to-front (length months) (λ i. or_zero f (get_or (none ∷ months) i none)), sum-held months f)
sum-held (some s ∷ months) f = omega (arith, sum_to-front (length months) (λ i. or_zero f (get_or (some s ∷ months) i none)), sum-held months f)

pub each-held : (P : List ℕ → Type 0) (months : List (Option (List ℕ))) → ((i : ℕ) → i < length months → IfHeld P (get_or months i none)) → Each P (sheets_of months)
unfolding sheets_of
each-held P [] h = tt
each-held P (none ∷ months) h = each-held P months (λ i l. h (suc i) (omega arith))
each-held P (some s ∷ months) h = (h 0 (omega arith), each-held P months (λ i l. h (suc i) (omega arith)))

pub sum_ones : (l : List (List ℕ)) → sum (map (λ s. 1) l) ≡ length l
sum_ones [] = refl
sum_ones (s ∷ l) = omega (arith, sum_ones l)

-- sums over places and over sheets change places
pub sums_swap : (k : ℕ) (l : List (List ℕ)) (f : ℕ → List ℕ → ℕ) → sum_to k (λ u. sum (map (f u) l)) ≡ sum (map (λ s. sum_to k (λ u. f u s)) l)
sums_swap k [] f = sum_to-zeros k
sums_swap k (s ∷ l) f = sum_to_add k (λ u. f u s) (λ u. sum (map (f u) l)) ∙ ap (λ (n : ℕ). sum_to k (λ u. f u s) + n) (sums_swap k l f)

pub sum_cong : (l : List (List ℕ)) (f g : List ℕ → ℕ) → Each (λ s. f s ≡ g s) l → sum (map f l) ≡ sum (map g l)
sum_cong [] f g h = refl
sum_cong (s ∷ l) f g h = omega (arith, h.0, sum_cong l f g h.1)

pub each_map : {P Q : List ℕ → Type 0} → ((s : List ℕ) → P s → Q s) → (l : List (List ℕ)) → Each P l → Each Q l
each_map f [] h = tt
each_map f (s ∷ l) h = (f s h.0, each_map f l h.1)

-- each number at most k from its fraction, the sum at most k times as many
pub near_sum : (l : List (List ℕ)) (x : List ℕ → ℕ) (f : List ℕ → Fraction) (k : ℕ) → Each (λ s. Near (x s) (f s) k) l → Near (sum (map x l)) (sumᶠ (map f l)) (k * length l)
unfolding sumᶠ
near_sum [] x f k h = near_zero (k * 0)
near_sum (s ∷ l) x f k h =
    subst (λ (n : ℕ). Near (sum (map x (s ∷ l))) (sumᶠ (map f (s ∷ l))) n) (omega arith) (near_add h.0 (near_sum l x f k h.1))

-- one of eight
pub eight-at : (f : ℕ → ℕ) (j : ℕ) → j < 8 → get_or (map f eight) j 0 ≡ f j
eight-at f zero h = refl
eight-at f (suc zero) h = refl
eight-at f (suc (suc zero)) h = refl
eight-at f (suc (suc (suc zero))) h = refl
eight-at f (suc (suc (suc (suc zero)))) h = refl
eight-at f (suc (suc (suc (suc (suc zero))))) h = refl
eight-at f (suc (suc (suc (suc (suc (suc zero)))))) h = refl
eight-at f (suc (suc (suc (suc (suc (suc (suc zero))))))) h = refl
eight-at f (suc (suc (suc (suc (suc (suc (suc (suc j)))))))) h = absurd (omega arith)

pub eight_cong : (f g : ℕ → ℕ) → ((j : ℕ) → j < 8 → f j ≡ g j) → map f eight ≡ map g eight
eight_cong f g h = ext_get_or 0 (map f eight) (map g eight) refl (λ j l. eight-at f j l ∙ h j l ∙ sym (eight-at g j l))

-- eight numbers of a list
pub eight-part : (xs : List ℕ) (at : ℕ) → at + 8 ≤ length xs → take 8 (drop at xs) ≡ map (λ j. get_or xs (at + j) 0) eight
eight-part xs at h =
    ext_get_or 0 (take 8 (drop at xs)) (map (λ j. get_or xs (at + j) 0) eight) (simp (length-take, length-drop) (omega arith))
    (λ j l. let low : j < 8 = omega (arith, length-take 8 (drop at xs)) in get_or-take 8 (drop at xs) j 0 low ∙ get_or-drop at xs j 0 ∙ sym (eight-at (λ j. get_or xs (at + j) 0) j low))

-- Counts of the keys that reach a number. Assumes nothing.
use mathlib.Core.Path.{◌≡◌, refl}
use mathlib.Core.Bool.{Bool, true, false}
use mathlib.Core.List.{List, [], ◌∷◌, ◌++◌}
use mathlib.Core.Logic.{◌⊎◌, inl, inr}
use Prim.Native.Nat.{ℕ, ◌+◌, ◌≤◌, ◌<◌, min, max}
use native.Mathlib.Decide.{dec_le}
use native.Mathlib.Omega.{arith}
use borrow.Author.Tests.{le-leb, lt-leb}
use lib.Dec.{leb, ltb}
use lib.ListN.{length, take, length-take}
use Rattle.std.specs.Int.{from_bool}
use Rattle.apportion.specs.Shares.{bit, at_least}
use Rattle.apportion.specs.Inner.Selection.{largest, Counted}

-- ---- a test's bit
pub bit-yes : (m k : ℕ) → m ≤ k → bit (leb m k) ≡ 1
bit-yes m k h = rw (le-leb m k h)

pub bit_no : (m k : ℕ) → k < m → bit (leb m k) ≡ 0
bit_no m k h = rw (lt-leb m k h)

pub bit-cases : (m k : ℕ) → ((m ≤ k) × (bit (leb m k) ≡ 1)) ⊎ ((k < m) × (bit (leb m k) ≡ 0))
bit-cases m k = elim (dec_le m k) [ yes h ↦ inl (h, bit-yes m k h) | no h ↦ inr (omega arith, bit_no m k (omega arith)) ]

-- std's number of a test
pub bit-from_bool : (b : Bool) → from_bool b ≡ bit b
bit-from_bool true = refl
bit-from_bool false = refl

pub from_bool_le : (b : Bool) → from_bool b ≤ 1
from_bool_le true = omega arith
from_bool_le false = omega arith

pub bit-min : (s : ℕ) → bit (ltb 0 s) ≡ min 1 s
bit-min s = elim (bit-cases 1 s) [ inl a ↦ omega arith | inr a ↦ omega arith ]

-- ---- counts
pub antitone : (m n : ℕ) (ks : List ℕ) → m ≤ n → at_least n ks ≤ at_least m ks
antitone m n [] h = omega arith
antitone m n (k ∷ ks) h =
    let ih = antitone m n ks h in
    elim (bit-cases m k) [ inl a ↦ elim (bit-cases n k) [ inl b ↦ omega arith | inr b ↦ omega arith ] | inr a ↦ omega (arith, bit_no n k (omega arith)) ]

pub at_zero : (ks : List ℕ) → at_least 0 ks ≡ length ks
at_zero [] = refl
at_zero (k ∷ ks) = omega (arith, at_zero ks, bit-yes 0 k (omega arith))

pub count_le : (m : ℕ) (ks : List ℕ) → at_least m ks ≤ length ks
count_le m ks = omega (arith, antitone 0 m ks (omega arith), at_zero ks)

pub no_higher : (m : ℕ) (ks : List ℕ) → largest ks < m → at_least m ks ≡ 0
no_higher m [] h = refl
no_higher m (k ∷ ks) h = omega (arith, no_higher m ks (omega arith), bit_no m k (omega arith))

pub largest_positive : (ks : List ℕ) → 0 < at_least 1 ks → 0 < largest ks
largest_positive ks h = elim (dec_le 1 (largest ks)) [ yes g ↦ g | no g ↦ absurd (omega (arith, no_higher 1 ks (omega arith))) ]

pub count_snoc : (m : ℕ) (ks : List ℕ) (k : ℕ) → at_least m (ks ++ (k ∷ [])) ≡ at_least m ks + bit (leb m k)
count_snoc m [] k = omega arith
count_snoc m (j ∷ ks) k = omega (arith, count_snoc m ks k)

pub so_far_le : (m i : ℕ) (ks : List ℕ) → at_least m (take i ks) ≤ i
so_far_le m i ks = omega (arith, count_le m (take i ks), length-take i ks)

-- what more keys reach is the lower number
pub under : (lo hi : ℕ) (ks : List ℕ) → at_least hi ks < at_least lo ks → lo < hi
under lo hi ks h = elim (dec_le hi lo) [ yes g ↦ absurd (omega (arith, antitone hi lo ks g)) | no g ↦ omega arith ]

-- ---- `Counted` with one key more, below m or not
module _ (m k lo hi count below above : ℕ) (ks : List ℕ) (c : Counted m lo hi count below above ks) where
  pub counted_below : k < m → Counted m lo hi count (max below (k + 1)) above (ks ++ (k ∷ []))
  counted_below h =
      let b = max below (k + 1) in
      let no = bit_no m k h in
      let same = count_snoc m ks k in
      let up : b ≤ m = omega (arith, c.below_le) in record {
        is-count = omega (arith, c.is-count);
        lo_le = omega (arith, c.lo_le);
        below_le = up;
        le_above = c.le_above;
        le_hi = c.le_hi;
        same-below = omega (
          arith,
          count_snoc b ks k,
          bit_no b k (omega arith),
          antitone b m ks up,
          antitone below b ks (omega arith),
          c.same-below,
        );
        same_above = omega (arith, count_snoc above ks k, bit_no above k (omega (arith, c.le_above)), c.same_above);
      }

  pub counted_reaching : m ≤ k → Counted m lo hi (count + 1) below (min above k) (ks ++ (k ∷ []))
  counted_reaching h =
      let a = min above k in
      let yes = bit-yes m k h in
      let same = count_snoc m ks k in
      let up : m ≤ a = omega (arith, c.le_above) in record {
        is-count = omega (arith, c.is-count);
        lo_le = c.lo_le;
        below_le = c.below_le;
        le_above = up;
        le_hi = omega (arith, c.le_hi);
        same-below = omega (arith, count_snoc below ks k, bit-yes below k (omega (arith, c.below_le)), c.same-below);
        same_above = omega (
          arith,
          count_snoc a ks k,
          bit-yes a k (omega arith),
          antitone m a ks up,
          antitone a above ks (omega arith),
          c.same_above,
        );
      }

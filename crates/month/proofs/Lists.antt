-- Laws of the lists of a month. Assumes nothing.
use mathlib.Core.Path.{◌≡◌, refl, ap, ap₂, ◌∙◌}
use mathlib.Core.Bool.{Bool, true, false, not}
use mathlib.Core.Logic.{◌⊎◌, inl, inr}
use mathlib.Core.List.{List, [], ◌∷◌, ◌++◌, map, map-append, append_assoc}
use Prim.Native.Nat.{ℕ, zero, suc, ◌+◌, ◌*◌, ◌≤◌, ◌<◌}
use native.Mathlib.Omega.{arith}
use lib.ListN.{length, get_or, take, drop, length-append, length-drop, get_or-append}
use lib.Seq.{take_all, get_or-drop, get_or-take, length-take-le, get_or-append-add, drop-drop}
use Rattle.apportion.specs.Shares.{sum}
use Rattle.sheet.specs.Tests.{Each}
use Rattle.sheet.specs.Layout.{UnitRow}
use Rattle.month.specs.Fraction.{Fraction, Near, ◌over◌}
use Rattle.month.specs.Weights.{those, is_read}
use Rattle.month.specs.Steps.{Rounding, whole_wh, unrounded, in_unit_order, unit_by_unit}
use Rattle.month.specs.Month.{four_and_four}
use Rattle.month.specs.Laws.{sum_to}
use Rattle.month.proofs.Nearness.{NearAll, near_zero}

-- a test is passed or not
pub decided : (t : Bool) → (t ≡ true) ⊎ (t ≡ false)
decided true = inl refl
decided false = inr refl

-- ---- sums
pub sum_append : (xs ys : List ℕ) → sum (xs ++ ys) ≡ sum xs + sum ys
sum_append [] ys = omega arith
sum_append (x ∷ xs) ys = omega (arith, sum_append xs ys)

-- one item more
pub sum-next : {A : Type 0} (f : A → ℕ) (xs : List A) (x : A) → sum (map f (xs ++ (x ∷ []))) ≡ sum (map f xs) + f x
sum-next f xs x = ap sum (map-append f xs (x ∷ [])) ∙ sum_append (map f xs) (f x ∷ []) ∙ omega arith

-- the first item and the others
sum_first : (n : ℕ) (xs : List ℕ) → sum (take (suc n) xs) ≡ get_or xs 0 0 + sum (take n (drop 1 xs))
sum_first zero [] = omega arith
sum_first (suc n) [] = omega arith
sum_first n (x ∷ xs) = refl

-- the last item and the others
pub sum-last : (n : ℕ) (xs : List ℕ) → length xs ≡ n + 1 → sum xs ≡ sum (take n xs) + get_or xs n 0
sum-last n [] e = absurd (omega arith)
sum-last zero (x ∷ []) e = omega arith
sum-last zero (x ∷ (y ∷ xs)) e = absurd (omega arith)
sum-last (suc n) (x ∷ xs) e = omega (arith, sum-last n xs (omega arith))

pub sum-two : (xs : List ℕ) → length xs ≡ 2 → sum xs ≡ get_or xs 0 0 + get_or xs 1 0
sum-two xs e = omega (arith, sum-last 1 xs e, sum_first 0 xs)

pub sum-whole : (n : ℕ) (xs : List ℕ) → length xs ≡ n → sum (take n xs) ≡ sum xs
sum-whole n xs e = ap sum (take_all n xs (omega arith))

-- ---- near lists
pub get_d_tail : {A : Type 0} (xs : List A) (i : ℕ) (d : A) → get_or (drop 1 xs) i d ≡ get_or xs (suc i) d
get_d_tail [] i d = refl
get_d_tail (x ∷ xs) i d = refl

pub near_tail : {xs : List ℕ} {fs : List Fraction} {k : ℕ} → NearAll xs fs k → NearAll (drop 1 xs) (drop 1 fs) k
near_tail {xs} {fs} n = record { at = λ i. rw (get_d_tail xs i 0, get_d_tail fs i (0 over 1)) (n.at (suc i)) }

pub near_cons : {x : ℕ} {f : Fraction} {xs : List ℕ} {fs : List Fraction} {k : ℕ} → Near x f k → NearAll xs fs k → NearAll (x ∷ xs) (f ∷ fs) k
near_cons {x} {f} {xs} {fs} {k} n m = record { at = go }
  where
    go : (i : ℕ) → Near (get_or (x ∷ xs) i 0) (get_or (f ∷ fs) i (0 over 1)) k
    go zero = n
    go (suc i) = m.at i

pub near_nil : (k : ℕ) → NearAll [] [] k
near_nil k = record { at = λ i. near_zero k }

-- ---- the shares in the order of the units
pub in_order-length : (us : List UnitRow) (a b : List ℕ) → length (in_unit_order whole_wh us a b) ≡ length us
unfolding in_unit_order
in_order-length [] a b = refl
in_order-length (u ∷ us) a b = elim (decided (is_read u)) [
  | inl e ↦ rw e (ap suc (in_order-length us a (drop 1 b)))
  | inr e ↦ rw e (ap suc (in_order-length us (drop 1 a) b))
]

pub in_order-sum : (us : List UnitRow) (a b : List ℕ)
    → sum (in_unit_order whole_wh us a b) ≡ sum (take (length (those (λ u. not (is_read u)) us)) a) + sum (take (length (those is_read us)) b)
unfolding in_unit_order
in_order-sum [] a b = refl
in_order-sum (u ∷ us) a b = elim (decided (is_read u)) [
  | inl e ↦ rw e (omega (arith, in_order-sum us a (drop 1 b), sum_first (length (those is_read us)) b))
  | inr e ↦ rw e (omega (arith, in_order-sum us (drop 1 a) b, sum_first (length (those (λ u. not (is_read u)) us)) a))
]

pub in_order_near : (us : List UnitRow) {a b : List ℕ} {f g : List Fraction} {k : ℕ} → NearAll a f k → NearAll b g k
    → NearAll (in_unit_order whole_wh us a b) (in_unit_order unrounded us f g) k
unfolding in_unit_order
in_order_near [] {k = k} n m = near_nil k
in_order_near (u ∷ us) n m = elim (decided (is_read u)) [
  | inl e ↦ rw e (near_cons (m.at 0) (in_order_near us n (near_tail m)))
  | inr e ↦ rw e (near_cons (n.at 0) (in_order_near us (near_tail n) m))
]

-- ---- four lists unit by unit
pub by_unit-length : (e : Rounding) (n : ℕ) (a b c d : List e.Energy) → length (unit_by_unit e n a b c d) ≡ 4 * n
unfolding unit_by_unit
by_unit-length e zero a b c d = refl
by_unit-length e (suc n) a b c d = omega (arith, by_unit-length e n (drop 1 a) (drop 1 b) (drop 1 c) (drop 1 d))

pub by_unit-sum : (n : ℕ) (a b c d : List ℕ) → sum (unit_by_unit whole_wh n a b c d) ≡ sum (take n a) + sum (take n b) + sum (take n c) + sum (take n d)
unfolding unit_by_unit
by_unit-sum zero a b c d = refl
by_unit-sum (suc n) a b c d = omega (arith, by_unit-sum n (drop 1 a) (drop 1 b) (drop 1 c) (drop 1 d), sum_first n a, sum_first n b, sum_first n c, sum_first n d)

pub by_unit_near : (n : ℕ) {a b c d : List ℕ} {f g h i : List Fraction} {k : ℕ} → NearAll a f k → NearAll b g k → NearAll c h k → NearAll d i k
    → NearAll (unit_by_unit whole_wh n a b c d) (unit_by_unit unrounded n f g h i) k
unfolding unit_by_unit
by_unit_near zero {k = k} p q r s = near_nil k
by_unit_near (suc n) p q r s =
    near_cons (p.at 0) (near_cons (q.at 0) (near_cons (r.at 0) (near_cons (s.at 0) (by_unit_near n (near_tail p) (near_tail q) (near_tail r) (near_tail s)))))

-- ---- sums by index
pub sum_to_cong : (k : ℕ) (f g : ℕ → ℕ) → ((i : ℕ) → i < k → f i ≡ g i) → sum_to k f ≡ sum_to k g
unfolding sum_to
sum_to_cong zero f g h = refl
sum_to_cong (suc k) f g h = ap₂ ◌+◌ (sum_to_cong k f g (λ i l. h i (omega arith))) (h k (omega arith))

sum_to-fours : (n : ℕ) (f : ℕ → ℕ) → sum_to n (λ u. sum_to 4 (λ j. f (4 * u + j))) ≡ sum_to (4 * n) f
unfolding sum_to
sum_to-fours zero f = refl
sum_to-fours (suc n) f =
    let m = 4 * n in
    let e : 4 * suc n ≡ suc (suc (suc (suc m))) = omega arith in
    let at : (j k : ℕ) → m + j ≡ k → f (m + j) ≡ f k = λ j k e. ap f e in
    rw e (omega (arith, sum_to-fours n f, at 0 m (omega arith), at 1 (suc m) (omega arith), at 2 (suc (suc m)) (omega arith), at 3 (suc (suc (suc m))) (omega arith)))

pub sum_to-front : (k : ℕ) (f : ℕ → ℕ) → sum_to (suc k) f ≡ f 0 + sum_to k (λ i. f (suc i))
unfolding sum_to
sum_to-front zero f = omega arith
sum_to-front (suc k) f = omega (arith, sum_to-front k f)

pub sum_to-list : (n : ℕ) (xs : List ℕ) → length xs ≡ n → sum_to n (λ i. get_or xs i 0) ≡ sum xs
unfolding sum_to
sum_to-list zero [] e = refl
sum_to-list zero (x ∷ xs) e = absurd (omega arith)
sum_to-list (suc n) [] e = absurd (omega arith)
sum_to-list (suc n) (x ∷ xs) e = sum_to-front n (λ i. get_or (x ∷ xs) i 0) ∙ ap (λ (y : ℕ). x + y) (sum_to-list n xs (omega arith))

pub sum-by-fours : (n : ℕ) (xs : List ℕ) → length xs ≡ 4 * n → sum_to n (λ u. sum_to 4 (λ j. get_or xs (4 * u + j) 0)) ≡ sum xs
sum-by-fours n xs e = sum_to-fours n (λ i. get_or xs i 0) ∙ sum_to-list (4 * n) xs e

-- ---- the statement's rows of eight
pub rows-length : (n : ℕ) (es cs : List ℕ) → length es ≡ 4 * n → length cs ≡ 4 * n → length (four_and_four n es cs) ≡ 8 * n
unfolding four_and_four
rows-length zero es cs p q = refl
rows-length (suc n) es cs p q =
    let ih = rows-length n (drop 4 es) (drop 4 cs) (omega (arith, length-drop 4 es)) (omega (arith, length-drop 4 cs)) in
    simp length-append (omega (arith, length-take-le 4 es (omega arith), length-take-le 4 cs (omega arith)))

eight : (es cs : List ℕ) → 4 ≤ length es → 4 ≤ length cs → length (take 4 es ++ take 4 cs) ≡ 8
eight es cs p q = omega (arith, length-append (take 4 es) (take 4 cs), length-take-le 4 es p, length-take-le 4 cs q)

-- number k of unit u
row_at : (n : ℕ) (es cs : List ℕ) (u k : ℕ) → length es ≡ 4 * n → length cs ≡ 4 * n → u < n → k < 8
    → get_or (four_and_four n es cs) (8 * u + k) 0 ≡ get_or (take 4 (drop (4 * u) es) ++ take 4 (drop (4 * u) cs)) k 0
unfolding four_and_four
row_at zero es cs u k p q h l = absurd (omega arith)
row_at (suc n) es cs zero k p q h l =
    let more = four_and_four n (drop 4 es) (drop 4 cs) in
    let e : 8 * 0 + k ≡ k = omega arith in
    rw (e, ← append_assoc (take 4 es) (take 4 cs) more)
    (get_or-append (take 4 es ++ take 4 cs) more 0 k (omega (arith, eight es cs (omega arith) (omega arith))))
row_at (suc n) es cs (suc u) k p q h l =
    let more = four_and_four n (drop 4 es) (drop 4 cs) in
    let e : 8 * suc u + k ≡ length (take 4 es ++ take 4 cs) + (8 * u + k) = omega (arith, eight es cs (omega arith) (omega arith)) in
    let d : 4 + 4 * u ≡ 4 * suc u = omega arith in
    rw (e, ← append_assoc (take 4 es) (take 4 cs) more) (
    get_or-append-add (take 4 es ++ take 4 cs) more (8 * u + k) 0
    ∙ row_at n (drop 4 es) (drop 4 cs) u k (omega (arith, length-drop 4 es)) (omega (arith, length-drop 4 cs)) (omega arith) l
    ∙ rw (drop-drop (4 * u) 4 es, drop-drop (4 * u) 4 cs, d)
    )

module _ (n : ℕ) (es cs : List ℕ) (u j : ℕ) (p : length es ≡ 4 * n) (q : length cs ≡ 4 * n) (h : u < n) (l : j < 4) where
  left : length (take 4 (drop (4 * u) es)) ≡ 4
  left = length-take-le 4 (drop (4 * u) es) (omega (arith, length-drop (4 * u) es))

  pub row-energy : get_or (four_and_four n es cs) (8 * u + j) 0 ≡ get_or es (4 * u + j) 0
  row-energy =
      row_at n es cs u j p q h (omega arith)
      ∙ get_or-append (take 4 (drop (4 * u) es)) (take 4 (drop (4 * u) cs)) 0 j (omega (arith, left))
      ∙ get_or-take 4 (drop (4 * u) es) j 0 l
      ∙ get_or-drop (4 * u) es j 0

  pub row_cost : get_or (four_and_four n es cs) (8 * u + (4 + j)) 0 ≡ get_or cs (4 * u + j) 0
  row_cost =
      row_at n es cs u (4 + j) p q h (omega arith)
      ∙ ap (λ (i : ℕ). get_or (take 4 (drop (4 * u) es) ++ take 4 (drop (4 * u) cs)) i 0) {y = length (take 4 (drop (4 * u) es)) + j} (omega (arith, left))
      ∙ get_or-append-add (take 4 (drop (4 * u) es)) (take 4 (drop (4 * u) cs)) j 0
      ∙ get_or-take 4 (drop (4 * u) cs) j 0 l
      ∙ get_or-drop (4 * u) cs j 0

-- ---- a bound of every number
abbrev pub AllBelow : ℕ → List ℕ → Type 0
AllBelow b xs = Each (λ x. x < b) xs

pub each_below : (b : ℕ) (xs : List ℕ) → sum xs < b → AllBelow b xs
each_below b [] h = tt
each_below b (x ∷ xs) h = (omega arith, each_below b xs (omega arith))

module _ {A : Type 0} (P : A → Type 0) where
  pub each_append : (xs ys : List A) → Each P xs → Each P ys → Each P (xs ++ ys)
  each_append [] ys h k = k
  each_append (x ∷ xs) ys h k = (h.0, each_append xs ys h.1 k)

  pub each_parts : (xs ys : List A) → Each P (xs ++ ys) → Each P xs × Each P ys
  each_parts [] ys h = (tt, h)
  each_parts (x ∷ xs) ys h = let k = each_parts xs ys h.1 in ((h.0, k.0), k.1)

  pub each_take : (n : ℕ) (xs : List A) → Each P xs → Each P (take n xs)
  each_take zero xs h = tt
  each_take (suc n) [] h = tt
  each_take (suc n) (x ∷ xs) h = (h.0, each_take n xs h.1)

  each-drop : (n : ℕ) (xs : List A) → Each P xs → Each P (drop n xs)
  each-drop zero xs h = h
  each-drop (suc n) [] h = tt
  each-drop (suc n) (x ∷ xs) h = each-drop n xs h.1

pub rows-below : (b n : ℕ) (es cs : List ℕ) → AllBelow b es → AllBelow b cs → AllBelow b (four_and_four n es cs)
unfolding four_and_four
rows-below b zero es cs h k = tt
rows-below b (suc n) es cs h k =
    let P : ℕ → Type 0 = λ x. x < b in
    each_append P (take 4 es) _ (each_take P 4 es h)
    (each_append P (take 4 cs) _ (each_take P 4 cs k) (rows-below b n (drop 4 es) (drop 4 cs) (each-drop P 4 es h) (each-drop P 4 cs k)))

-- The keys near the threshold: those in a bracket, and what they tell of all keys. Assumes nothing.
use mathlib.Core.Path.{◌≡◌, refl, sym, ap, ◌∙◌}
use mathlib.Core.List.{List, [], ◌∷◌, ◌++◌, append-nil}
use Prim.Native.Nat.{ℕ, suc, ◌+◌, ◌-◌, ◌%◌, ◌≤◌, ◌<◌}
use native.Mathlib.Nat.{mod-eq_of_lt}
use native.Mathlib.Decide.{dec_le, dec_lt}
use native.Mathlib.Omega.{arith}
use borrow.Author.Tests.{le-leb, lt-leb}
use lib.Dec.{leb}
use lib.ListN.{length, take, set, length-append}
use lib.Seq.{take-set-le, take-suc-set}
use Rattle.std.specs.Int.{from_bool}
use Rattle.std.specs.Prelude.{◌&&◌, nat_le, nat_lt}
use Rattle.std.proofs.lemmas.List.Elements.{filter-append}
use Rattle.apportion.specs.Shares.{bit, at_least}
use Rattle.apportion.specs.Inner.Selection.{inside, Collected, Cuts}
use Rattle.apportion.proofs.Counting.{bit-yes, bit_no, bit-from_bool, count_le, count_snoc, under}

module _ (lo hi : ℕ) (bracket : lo ≤ hi) where
  -- a key below, in or above the bracket
  data Place (k : ℕ) : Type 0 where
    below : k < lo → ((ks : List ℕ) → inside lo hi (k ∷ ks) ≡ inside lo hi ks) → Place k
    within : lo ≤ k → k < hi → ((ks : List ℕ) → inside lo hi (k ∷ ks) ≡ k ∷ inside lo hi ks) → Place k
    past : hi ≤ k → ((ks : List ℕ) → inside lo hi (k ∷ ks) ≡ inside lo hi ks) → Place k

  place : (k : ℕ) → Place k
  place k =
      elim (dec_le lo k) [
        | yes h ↦ elim (dec_lt k hi) [ yes g ↦ within h g (λ ks. rw (le-leb lo k h, le-leb (suc k) hi g)) | no g ↦ past (omega arith) (λ ks. rw (le-leb lo k h, lt-leb (suc k) hi (omega arith))) ]
        | no h ↦ below (omega arith) (λ ks. rw (lt-leb lo k (omega arith)))
      ]

  -- the keys that reach a number of the bracket lie above the bracket or in it
  above_and_inside : (m : ℕ) → lo ≤ m → m ≤ hi → (ks : List ℕ) → at_least m ks ≡ at_least hi ks + at_least m (inside lo hi ks)
  above_and_inside m a b [] = refl
  above_and_inside m a b (k ∷ ks) =
      let ih = above_and_inside m a b ks in
      elim (place k) [
        | below h e ↦ omega (arith, ap (at_least m) (e ks), bit_no m k (omega arith), bit_no hi k (omega arith))
        | within h g e ↦ omega (arith, ap (at_least m) (e ks), bit_no hi k g)
        | past h e ↦ omega (arith, ap (at_least m) (e ks), bit-yes m k (omega arith), bit-yes hi k h)
      ]

  all-inside : (ks : List ℕ) → at_least lo (inside lo hi ks) ≡ length (inside lo hi ks)
  all-inside [] = refl
  all-inside (k ∷ ks) =
      let ih = all-inside ks in
      elim (place k) [
        | below h e ↦ omega (arith, ap (at_least lo) (e ks), ap length (e ks))
        | within h g e ↦ omega (arith, ap (at_least lo) (e ks), ap length (e ks), bit-yes lo k h)
        | past h e ↦ omega (arith, ap (at_least lo) (e ks), ap length (e ks))
      ]

  none-past : (ks : List ℕ) → at_least hi (inside lo hi ks) ≡ 0
  none-past ks = omega (arith, above_and_inside hi bracket (omega arith) ks)

  some-inside : (ks : List ℕ) → 0 < length (inside lo hi ks) → lo < hi
  some-inside ks h = under lo hi (inside lo hi ks) (omega (arith, all-inside ks, none-past ks))

  inside_snoc : (ks : List ℕ) (k : ℕ) → inside lo hi (ks ++ (k ∷ [])) ≡ inside lo hi ks ++ inside lo hi (k ∷ [])
  inside_snoc ks k = filter-append (λ j. nat_le lo j && nat_lt j hi) ks (k ∷ [])

  pub collected_le : {above n : ℕ} {near ks : List ℕ} → Collected lo hi above n near ks → above + n ≤ length ks
  collected_le {ks = ks} c =
      omega (arith, c.is_above_lem, c.is_within, above_and_inside lo (omega arith) bracket ks, all-inside ks, count_le lo ks)

  -- the keys written serve to find the threshold, if it lies in the bracket
  module _ {above n left : ℕ} {near ks : List ℕ} (c : Collected lo hi above n near ks) (few : n < 128) (a : above < left) (b : left ≤ above + n) where
    pub to_narrow : (lo < hi) × (n ≡ at_least lo (take n near)) × (0 ≡ at_least hi (take n near)) × (0 < left - above) × (left - above ≤ n)
    to_narrow =
        let e = c.is_near few in (
          some-inside ks (omega (arith, c.is_within)),
          omega (arith, c.is_within, ap (at_least lo) e, all-inside ks),
          sym (ap (at_least hi) e ∙ none-past ks),
          omega arith,
          omega arith,
        )

    pub narrowed : (θ spare : ℕ) → lo ≤ θ → θ < hi → Cuts (left - above) θ spare (take n near) → Cuts left θ spare ks
    narrowed θ spare g h t =
        let e = c.is_near few in
        omega (arith, c.is_above_lem, ap (at_least θ) e, ap (at_least (suc θ)) e, above_and_inside θ g (omega arith) ks, above_and_inside (suc θ) (omega arith) h ks)

  -- one key more, which stays written or not
  module _ {above n : ℕ} {near ks : List ℕ} (room : length near ≡ 128) (c : Collected lo hi above n near ks) (k : ℕ) where
    abbrev written : List ℕ
    written = set near (n % 128) k

    not_kept_lem : inside lo hi (k ∷ []) ≡ [] → Collected lo hi (above + bit (leb hi k)) n written (ks ++ (k ∷ []))
    not_kept_lem e =
        let same : inside lo hi (ks ++ (k ∷ [])) ≡ inside lo hi ks =
        inside_snoc ks k ∙ ap (λ (r : List ℕ). inside lo hi ks ++ r) e ∙ append-nil (inside lo hi ks) in record {
          is_above_lem = omega (arith, c.is_above_lem, count_snoc hi ks k);
          is_within = c.is_within ∙ sym (ap length same);
          is_near = λ h. take-set-le n near (n % 128) k (omega (arith, mod-eq_of_lt h)) ∙ c.is_near h ∙ sym same;
        }

    kept : inside lo hi (k ∷ []) ≡ k ∷ [] → Collected lo hi (above + bit (leb hi k)) (n + 1) written (ks ++ (k ∷ []))
    kept e =
        let more : inside lo hi (ks ++ (k ∷ [])) ≡ inside lo hi ks ++ (k ∷ []) =
        inside_snoc ks k ∙ ap (λ (r : List ℕ). inside lo hi ks ++ r) e in record {
          is_above_lem = omega (arith, c.is_above_lem, count_snoc hi ks k);
          is_within = omega (arith, c.is_within, ap length more, length-append (inside lo hi ks) (k ∷ []));
          is_near = λ h.
              ap (λ (i : ℕ). take (n + 1) (set near i k)) (mod-eq_of_lt {n = n} {m = 128} (omega arith))
              ∙ ap (λ (i : ℕ). take i (set near n k)) {x = n + 1} {y = suc n} (omega arith)
              ∙ take-suc-set near n k (omega arith)
              ∙ ap (λ (r : List ℕ). r ++ (k ∷ [])) (c.is_near (omega arith))
              ∙ sym more;
        }

    pub collected_with : {a p : ℕ} → a ≡ from_bool (leb lo k) → p ≡ from_bool (leb hi k) → Collected lo hi (above + p) (n + (a - p)) written (ks ++ (k ∷ []))
    collected_with {a} {p} fa fp =
        let ea = fa ∙ bit-from_bool (leb lo k) in
        let ep = fp ∙ bit-from_bool (leb hi k) in
        elim (place k) [
          | below h e ↦ to n (omega (arith, bit_no lo k h)) (not_kept_lem (e []))
          | within h g e ↦ to (n + 1) (omega (arith, bit-yes lo k h, bit_no hi k g)) (kept (e []))
          | past h e ↦ to n (omega (arith, bit-yes lo k (omega arith), bit-yes hi k h)) (not_kept_lem (e []))
        ]
      where
        to : (m : ℕ) → n + (a - p) ≡ m → Collected lo hi (above + bit (leb hi k)) m written (ks ++ (k ∷ [])) → Collected lo hi (above + p) (n + (a - p)) written (ks ++ (k ∷ []))
        to m e x = rw (e, fp ∙ bit-from_bool (leb hi k)) x

-- An update of the year sums, and refusal 19. Assumes nothing.
use mathlib.Core.Path.{◌≡◌, refl, sym, ap, ◌∙◌}
use mathlib.Core.Bool.{Bool, true, false, ◌||◌}
use mathlib.Core.List.{List, [], ◌∷◌, ◌++◌, map, zip_with}
use Prim.Native.Nat.{ℕ, zero, suc, ◌+◌, ◌*◌, ◌-◌, ◌%◌, ◌≤◌, ◌<◌}
use native.Mathlib.Omega.{arith}
use lib.Dec.{ltb}
use lib.Bits.{bit_or}
use borrow.Author.Tests.{le-ltb, ltb-false, eq-eqb, ne_eqb, eqb-true, not-false}
use lib.ListN.{length, get_or, take, drop, length-take, take-append-drop}
use Rattle.std.specs.Prelude.{if◌then◌else◌, Ok, Err}
use Rattle.std.specs.declared.result.Result.{Result}
use Rattle.sheet.specs.Tests.{any}
use Rattle.sheet.specs.declared.refusal.Refusal.{Refusal}
use Rattle.sheet.specs.declared.refusal.Refusal.TheVariants.{BadYearSums}
use Rattle.std.specs.List.{fold}
use Rattle.std.proofs.lemmas.List.{get_or-append_right, get_or-drop}
use Rattle.std.proofs.lemmas.Nat.{le_or_l, le_or_r}
use Rattle.year_sums.specs.YearSums.{sums_length, most64, updated, bad_sums}
use Rattle.year_sums.specs.Inner.Update.{past_an_end, some_past_an_end, SameLength, Blocks, Reach, Far, Updates}
use Rattle.year_sums.proofs.Lists.{neither, none_of_two}

-- ---- three lists of one length
pub along : (P : List ℕ → List ℕ → List ℕ → Type 0) → P [] [] [] → ((s o n : ℕ) (ss os ns : List ℕ) → P ss os ns → P (s ∷ ss) (o ∷ os) (n ∷ ns))
    → (sums old new : List ℕ) → SameLength sums old new → P sums old new
along P base step [] [] [] e = base
along P base step (s ∷ ss) (o ∷ os) (n ∷ ns) e = step s o n ss os ns (along P base step ss os ns (record { old-long = omega arith; new-long = omega arith }))
along P base step [] (o ∷ os) ns e = absurd (omega arith)
along P base step [] [] (n ∷ ns) e = absurd (omega arith)
along P base step (s ∷ ss) [] ns e = absurd (omega arith)
along P base step (s ∷ ss) (o ∷ os) [] e = absurd (omega arith)

-- a number that can change
pub record Fits (sum old new : ℕ) : Type 0 where
  pub above : old ≤ sum
  pub below : sum - old + new ≤ most64

pub past-neither : (sum old new : ℕ) → past_an_end sum old new ≡ false → Fits sum old new
past-neither sum old new e =
    let n = neither (ltb sum old) _ e in
    record { above = ltb-false sum old n.0; below = ltb-false most64 (sum - old + new) n.1 }

pub not-past : (sum old new : ℕ) → old ≤ sum → sum - old + new ≤ most64 → past_an_end sum old new ≡ false
not-past sum old new h l = none_of_two (le-ltb sum old h) (le-ltb most64 (sum - old + new) l)

-- ---- by place
module _ {sums old new : List ℕ} (same : SameLength sums old new) where
  pub long : length (updated sums old new) ≡ length sums
  unfolding updated zip_with
  long = along (λ ss os ns. length (updated ss os ns) ≡ length ss) refl (λ s o n ss os ns e. omega arith) sums old new same

  pub there : (k : ℕ) → k < length sums → get_or (updated sums old new) k 0 ≡ get_or sums k 0 - get_or old k 0 + get_or new k 0
  unfolding updated zip_with
  there = along (λ ss os ns. (k : ℕ) → k < length ss → get_or (updated ss os ns) k 0 ≡ get_or ss k 0 - get_or os k 0 + get_or ns k 0)
      (λ k h. absurd (omega arith))
      (λ s o n ss os ns e k. elim k as (λ k. k < length (s ∷ ss) → get_or (updated (s ∷ ss) (o ∷ os) (n ∷ ns)) k 0 ≡ get_or (s ∷ ss) k 0 - get_or (o ∷ os) k 0 + get_or (n ∷ ns) k 0) [
        | zero ↦ λ h. refl
        | suc k ↦ λ h. e k (omega arith)
      ])
      sums old new same

  pub fits_there : some_past_an_end sums old new ≡ false → (k : ℕ) → k < length sums → Fits (get_or sums k 0) (get_or old k 0) (get_or new k 0)
  fits_there = along (λ ss os ns. some_past_an_end ss os ns ≡ false → (k : ℕ) → k < length ss → Fits (get_or ss k 0) (get_or os k 0) (get_or ns k 0))
      (λ g k h. absurd (omega arith))
      (λ s o n ss os ns e g k. let both = neither (past_an_end s o n) _ g in elim k as (λ k. k < length (s ∷ ss) → Fits (get_or (s ∷ ss) k 0) (get_or (o ∷ os) k 0) (get_or (n ∷ ns) k 0)) [
        | zero ↦ λ h. past-neither s o n both.0
        | suc k ↦ λ h. e both.1 k (omega arith)
      ])
      sums old new same

  pub past_nowhere : ((k : ℕ) → k < length sums → past_an_end (get_or sums k 0) (get_or old k 0) (get_or new k 0) ≡ false) → some_past_an_end sums old new ≡ false
  past_nowhere = along (λ ss os ns. ((k : ℕ) → k < length ss → past_an_end (get_or ss k 0) (get_or os k 0) (get_or ns k 0) ≡ false) → some_past_an_end ss os ns ≡ false)
      (λ g. refl)
      (λ s o n ss os ns e g. none_of_two (g 0 (omega arith)) (e (λ k h. g (suc k) (omega arith))))
      sums old new same

  -- the definition tests all sums for the one end, then all for the other
  pub each-tested : some_past_an_end sums old new ≡ (any (zip_with ltb sums old) || any (map (ltb most64) (updated sums old new)))
  unfolding updated zip_with any
  each-tested = along (λ ss os ns. some_past_an_end ss os ns ≡ (any (zip_with ltb ss os) || any (map (ltb most64) (updated ss os ns))))
      refl
      (λ s o n ss os ns e. ap (λ t. past_an_end s o n || t) e ∙ between (ltb s o) (ltb most64 (s - o + n)) (any (zip_with ltb ss os)) (any (map (ltb most64) (updated ss os ns))))
      sums old new same
    where
      between : (a b x y : Bool) → ((a || b) || (x || y)) ≡ ((a || x) || (b || y))
      between true b x y = refl
      between false true true y = refl
      between false true false y = refl
      between false false x y = refl

-- ---- bits gathered
module _ {A : Type 0} (f : A → ℕ) where
  pub bits_kept : (bits : ℕ) (xs : List A) → bits ≤ fold (λ b x. bit_or b (f x)) bits xs
  bits_kept bits [] = omega arith
  bits_kept bits (x ∷ xs) = omega (arith, le_or_l bits (f x), bits_kept (bit_or bits (f x)) xs)

  pub bits_gathered : (bits : ℕ) (xs : List A) (k : ℕ) (d : A) → k < length xs → f (get_or xs k d) ≤ fold (λ b x. bit_or b (f x)) bits xs
  bits_gathered bits [] k d h = absurd (omega arith)
  bits_gathered bits (x ∷ xs) zero d h = omega (arith, le_or_r bits (f x), bits_kept (bit_or bits (f x)) xs)
  bits_gathered bits (x ∷ xs) (suc k) d h = bits_gathered (bit_or bits (f x)) xs k d (omega arith)

-- the difference as 64 bits hold it
abbrev pub difference : ℕ × ℕ → ℕ
difference p = (p.0 + (18446744073709551616 - p.1)) % 18446744073709551616

pub far-one : (sum old : ℕ) → sum ≤ most64 → old < 4294967296 → difference (sum, old) < 9223372036854775808 → Far sum old
far-one sum old m l h = record { above = omega arith; room = omega arith }

-- ---- an update that reaches only the first r places
-- a fact of each number from the place r on
abbrev From : (ℕ → Type 0) → ℕ → List ℕ → Type 0
From P r xs = (k : ℕ) → r ≤ k → P (get_or xs k 0)

abbrev Zeros : ℕ → List ℕ → Type 0
Zeros = From (λ x. x ≡ 0)

abbrev Wide : ℕ → List ℕ → Type 0
Wide = From (λ x. x ≤ most64)

pub record Within (sums old new : List ℕ) (r : ℕ) : Type 0 where
  pub count : length sums ≡ sums_length
  pub same : SameLength sums old new
  pub most : r ≤ sums_length
  pub old-rest : Zeros r old
  pub new-rest : Zeros r new

module _ {sums old new : List ℕ} {r : ℕ} (w : Within sums old new r) where
  front-length : length (take r sums) ≡ r
  front-length = simp length-take (omega arith)

  pub fronts : SameLength (take r sums) (take r old) (take r new)
  fronts = let s = w.same in record { old-long = simp length-take (omega arith); new-long = simp length-take (omega arith) }

  pub past_in_front : Wide r sums → some_past_an_end sums old new ≡ some_past_an_end (take r sums) (take r old) (take r new)
  past_in_front wide =
      along (λ ss os ns. (r : ℕ) → Zeros r os → Zeros r ns → Wide r ss → some_past_an_end ss os ns ≡ some_past_an_end (take r ss) (take r os) (take r ns))
      (λ r y z l. elim r as (λ r. some_past_an_end [] [] [] ≡ some_past_an_end (take r []) (take r []) (take r [])) [ zero ↦ refl | suc r ↦ refl ])
      (λ s o n ss os ns e r. elim r as (λ r. Zeros r (o ∷ os) → Zeros r (n ∷ ns) → Wide r (s ∷ ss) → some_past_an_end (s ∷ ss) (o ∷ os) (n ∷ ns) ≡ some_past_an_end (take r (s ∷ ss)) (take r (o ∷ os)) (take r (n ∷ ns))) [
        | zero ↦ λ y z l.
            let i : o ≡ 0 = y 0 (omega arith) in
            let j : n ≡ 0 = z 0 (omega arith) in
            let m : s ≤ most64 = l 0 (omega arith) in
            none_of_two (not-past s o n (omega arith) (omega arith)) (e 0 (λ k h. y (suc k) (omega arith)) (λ k h. z (suc k) (omega arith)) (λ k h. l (suc k) (omega arith)))
        | suc q ↦ λ y z l. ap (λ t. past_an_end s o n || t) (e q (λ k h. y (suc k) (omega arith)) (λ k h. z (suc k) (omega arith)) (λ k h. l (suc k) (omega arith)))
      ])
      sums old new w.same r w.old-rest w.new-rest wide

  pub updated_in_front : updated sums old new ≡ updated (take r sums) (take r old) (take r new) ++ drop r sums
  unfolding updated zip_with
  updated_in_front =
      along (λ ss os ns. (r : ℕ) → Zeros r os → Zeros r ns → updated ss os ns ≡ updated (take r ss) (take r os) (take r ns) ++ drop r ss)
      (λ r y z. elim r as (λ r. updated [] [] [] ≡ updated (take r []) (take r []) (take r []) ++ drop r []) [ zero ↦ refl | suc r ↦ refl ])
      (λ s o n ss os ns e r. elim r as (λ r. Zeros r (o ∷ os) → Zeros r (n ∷ ns) → updated (s ∷ ss) (o ∷ os) (n ∷ ns) ≡ updated (take r (s ∷ ss)) (take r (o ∷ os)) (take r (n ∷ ns)) ++ drop r (s ∷ ss)) [
        | zero ↦ λ y z.
            let i : o ≡ 0 = y 0 (omega arith) in
            let j : n ≡ 0 = z 0 (omega arith) in
            let same : s - o + n ≡ s = omega arith in
            rw same (ap (λ xs. s ∷ xs) (e 0 (λ k h. y (suc k) (omega arith)) (λ k h. z (suc k) (omega arith))))
        | suc q ↦ λ y z. ap (λ xs. (s - o + n) ∷ xs) (e q (λ k h. y (suc k) (omega arith)) (λ k h. z (suc k) (omega arith)))
      ])
      sums old new w.same r w.old-rest w.new-rest

-- ---- 19 as defined, of a list of 1,280 sums
module _ (sums old new : List ℕ) where
  pub bad-length : (length sums ≡ sums_length → ⊥) → bad_sums sums old new ≡ true
  unfolding bad_sums
  bad-length h = rw (ne_eqb (length sums) sums_length h)

  pub right-length : bad_sums sums old new ≡ false → length sums ≡ sums_length
  unfolding bad_sums
  right-length e = eqb-true (length sums) sums_length (not-false _ (neither _ _ (neither _ _ e).0).0)

  module _ (size : length sums ≡ sums_length) (off : length old ≡ sums_length) (on : length new ≡ sums_length) where
    full : SameLength sums old new
    full = record { old-long = off ∙ sym size; new-long = on ∙ sym size }

    pub bad-is : bad_sums sums old new ≡ some_past_an_end sums old new
    unfolding bad_sums
    bad-is = rw (eq-eqb (length sums) sums_length size) (sym (each-tested full))

    pub updated-length : length (updated sums old new) ≡ sums_length
    updated-length = long full ∙ size

    pub updated-at : (k : ℕ) → k < sums_length → get_or (updated sums old new) k 0 ≡ get_or sums k 0 - get_or old k 0 + get_or new k 0
    updated-at k h = there full k (omega arith)

    pub not-bad : ((k : ℕ) → k < sums_length → past_an_end (get_or sums k 0) (get_or old k 0) (get_or new k 0) ≡ false) → bad_sums sums old new ≡ false
    not-bad h = bad-is ∙ past_nowhere full (λ k l. h k (omega arith))

    pub good-at : bad_sums sums old new ≡ false → (k : ℕ) → k < sums_length → Fits (get_or sums k 0) (get_or old k 0) (get_or new k 0)
    good-at e k h = fits_there full (sym bad-is ∙ e) k (omega arith)

-- ---- the update as a whole
module _ {sums old new : List ℕ} where
  pub update-refused : bad_sums sums old new ≡ true → Updates sums old new (Err BadYearSums) sums
  update-refused e = record { answer = rw e; written = rw e }

  pub update-made : bad_sums sums old new ≡ false → Updates sums old new (Ok tt) (updated sums old new)
  update-made e = record { answer = rw e; written = rw e }

pub within : {sums old new : List ℕ} {n r : ℕ} → Blocks old n new → Reach old (8 * n) r → length sums ≡ sums_length → Within sums old new r
within b h e = record {
  count = e;
  same = record { old-long = b.old-full ∙ sym e; new-long = b.full ∙ sym e };
  most = h.most;
  old-rest = h.rest;
  new-rest = λ k l. b.rest k (omega (arith, h.least));
}

-- the first r sums and the rest as code leaves them
module _ {sums old new : List ℕ} {r : ℕ} (w : Within sums old new r) (front : List ℕ) (fits : (k : ℕ) → get_or (front ++ drop r sums) k 0 ≤ most64) where
  bad-in_front : length front ≡ length (take r sums) → bad_sums sums old new ≡ some_past_an_end (take r sums) (take r old) (take r new)
  bad-in_front size =
      bad-is sums old new w.count (w.same.old-long ∙ w.count) (w.same.new-long ∙ w.count)
      ∙ past_in_front w (λ k h.
      let same : r + (k - r) ≡ k = omega arith in
      let at = get_or-append_right front (drop r sums) r k 0 (size ∙ front-length w) h ∙ get_or-drop r sums (k - r) 0 in
      omega (arith, rw same at at, fits k))

  pub update-refused_in_front : front ≡ take r sums → some_past_an_end (take r sums) (take r old) (take r new) ≡ true → Updates sums old new (Err BadYearSums) (front ++ drop r sums)
  update-refused_in_front e f = let bad = bad-in_front (ap length e) ∙ f in rw (e, take-append-drop r sums) (update-refused bad)

  pub update-made_in_front : front ≡ updated (take r sums) (take r old) (take r new) → some_past_an_end (take r sums) (take r old) (take r new) ≡ false → Updates sums old new (Ok tt) (front ++ drop r sums)
  update-made_in_front e f = let good = bad-in_front (ap length e ∙ long (fronts w)) ∙ f in rw (e, ← updated_in_front w) (update-made good)

-- and what its answer tells
err_tells : (bad : Bool) {e : Refusal} → ◌≡◌ {A = Result (Unit {0}) Refusal} (Err e) (if bad then Err BadYearSums else Ok tt) → (bad ≡ true) × (e ≡ BadYearSums)
err_tells true h = (refl, cc)
err_tells false h = absurd (cc)

ok_tells : (bad : Bool) → ◌≡◌ {A = Result (Unit {0}) Refusal} (Ok tt) (if bad then Err BadYearSums else Ok tt) → bad ≡ false
ok_tells true h = absurd (cc)
ok_tells false h = refl

module _ {sums old new after : List ℕ} where
  pub update-err : {e : Refusal} → Updates sums old new (Err e) after → (bad_sums sums old new ≡ true) × (e ≡ BadYearSums) × (after ≡ sums)
  update-err u = let t = err_tells (bad_sums sums old new) u.answer in let bad = t.0 in (bad, t.1, u.written ∙ rw bad)

  pub update-ok : Updates sums old new (Ok tt) after → (bad_sums sums old new ≡ false) × (after ≡ updated sums old new)
  update-ok u = let good = ok_tells (bad_sums sums old new) u.answer in (good, u.written ∙ rw good)

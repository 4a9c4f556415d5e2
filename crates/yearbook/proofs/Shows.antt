-- A lent list that shows a plain book: kept by a write, true of a fresh book. Assumes nothing.
use mathlib.Core.Path.{◌≡◌, refl, ◌∙◌}
use mathlib.Core.Logic.{◌≢◌, ◌⊎◌, inl, inr}
use mathlib.Core.List.{List}
use mathlib.Core.Option.{Option, none, some}
use Prim.Native.Nat.{ℕ, ◌+◌, ◌*◌, ◌-◌, ◌≤◌, ◌<◌}
use native.Mathlib.Omega.{arith}
use native.Mathlib.Decide.{ℕ_discrete, dec_lt}
use lib.ListN.{length, get_or, take, drop, set, replicate, length-set, length-take, length-drop, length-replicate, get_or-replicate}
use lib.Seq.{get_or-set_same, get_or-set_other, get_or-take, get_or-drop, ext_get_or}
use Rattle.std.specs.Prelude.{Ok}
use Rattle.sheet.specs.RuleSets.{newest}
use Rattle.sheet.specs.Layout.{sheet_of}
use Rattle.sheet.specs.Check.{checked}
use Rattle.sheet.proofs.Fits.{fits}
use Rattle.sheet.proofs.Units.{ids-count}
use Rattle.month.specs.Month.{Settled, month_of, settled_sheet, statement_of, bill_cents}
use Rattle.yearbook.specs.PlainBook.{PlainBook, opened_plain, now_holds}
use Rattle.yearbook.specs.LentBook.{book_length, ids_at, block_length, unit_count_in, mark_at, meter_at, bill_at, block_at, ids_in, padded, put_month, put_sheet, clear_month, fresh_book, if_marked}
use Rattle.yearbook.specs.Inner.Sound.{Sound}
use Rattle.yearbook.proofs.Sums.{or_zero, IfHeld}
use Rattle.year_sums.proofs.Lists.{zero-at}
use Rattle.yearbook.proofs.Stores.{zeros-after}
use Rattle.yearbook.proofs.Settled.{block_length_lem}
use Rattle.yearbook.proofs.Writes.{put-length, put-mark, put-meter, put-bill, put-block, put_other, fresh-length, fresh-count, fresh-low, fresh-high, fresh-id}

-- ---- the relation
-- the month at place i shows what it holds: a sheet or nothing
pub record At (b : List ℕ) (i : ℕ) (held : Option (List ℕ)) : Type 0 where
  pub mark : get_or b (mark_at i) 0 ≡ or_zero (λ s. 1) held
  pub meter : get_or b (meter_at i) 0 ≡ or_zero (λ s. (sheet_of s).shared_meter) held
  pub bill : get_or b (bill_at i) 0 ≡ or_zero (λ s. bill_cents (sheet_of s)) held
  pub block : (k : ℕ) → k < block_length → get_or b (block_at i + k) 0 ≡ or_zero (λ s. get_or (statement_of newest (sheet_of s)) k 0) held

-- a sheet of n units that settles
pub record Good (n : ℕ) (sheet : List ℕ) : Type 0 where
  pub settles : settled_sheet newest sheet ≡ Settled.settled (month_of newest (sheet_of sheet))
  pub units : (sheet_of sheet).unit_count ≡ n

pub record Shows (n : ℕ) (b : List ℕ) (p : PlainBook) : Type 0 where
  pub size : length b ≡ book_length
  pub few : n ≤ 160
  pub count : unit_count_in b ≡ n
  pub plain-count : p.unit_count ≡ n
  pub ids : (i : ℕ) → i < 160 → get_or b (ids_at + i) 0 ≡ get_or p.ids i 0
  pub as_many : length p.ids ≡ n
  pub twelve : length p.months ≡ 12
  pub months : (i : ℕ) → i < 12 → At b i (get_or p.months i none)
  pub good : (i : ℕ) → i < 12 → IfHeld (Good n) (get_or p.months i none)

-- ---- what it says
mark-low : {b : List ℕ} {i : ℕ} (held : Option (List ℕ)) → At b i held → get_or b (mark_at i) 0 ≤ 1
mark-low none a = omega (arith, a.mark)
mark-low (some s) a = omega (arith, a.mark)

-- a number of the month, by its mark
pub if_marked_lem : {b : List ℕ} {i x : ℕ} (f : List ℕ → ℕ) (held : Option (List ℕ)) → At b i held → x ≡ or_zero f held → if_marked (get_or b (mark_at i) 0) x ≡ or_zero f held
if_marked_lem f none a e = rw a.mark
if_marked_lem f (some s) a e = rw a.mark e

module _ {n : ℕ} {b : List ℕ} {p : PlainBook} (h : Shows n b p) where
  -- 15 can't arise
  pub shows-sound : Sound b
  shows-sound = record { size = h.size; few-units = omega (arith, h.count, h.few); marks = λ i l. mark-low _ (h.months i l) }

  pub shows-ids : ids_in b ≡ p.ids
  shows-ids =
      let c = h.count in let few = h.few in let size = h.size in
      let e : length (take (unit_count_in b) (drop ids_at b)) ≡ length p.ids = simp (length-take, length-drop) (omega (arith, h.as_many)) in
      ext_get_or 0 (take (unit_count_in b) (drop ids_at b)) p.ids e (λ i l.
      let l' : i < unit_count_in b = omega (arith, length-take (unit_count_in b) (drop ids_at b)) in
      rw (get_or-take, get_or-drop) (h.ids i (omega arith)))

-- ---- a month is written
-- the statement with zeros after it
block_of : Option (List ℕ) → List ℕ
block_of none = replicate block_length 0
block_of (some s) = padded (sheet_of s).unit_count (statement_of newest (sheet_of s))

block_at_lem : (held : Option (List ℕ)) (k : ℕ) → get_or (block_of held) k 0 ≡ or_zero (λ s. get_or (statement_of newest (sheet_of s)) k 0) held
unfolding block_of
block_at_lem none k = zero-at block_length k
block_at_lem (some s) k = zeros-after (statement_of newest (sheet_of s)) (block_length - 8 * (sheet_of s).unit_count) k

block-full : (n : ℕ) (held : Option (List ℕ)) → IfHeld (Good n) held → length (block_of held) ≡ block_length
unfolding block_of
block-full n none g = length-replicate {A = ℕ} block_length 0
block-full n (some s) g = block_length_lem s g.settles

put : List ℕ → ℕ → Option (List ℕ) → List ℕ
put b i held = put_month b i (or_zero (λ s. 1) held) (or_zero (λ s. (sheet_of s).shared_meter) held) (or_zero (λ s. bill_cents (sheet_of s)) held) (block_of held)

pub outside : (i k x : ℕ) → k ≢ i → x < block_length → (block_at k + x < block_at i) ⊎ (block_at i + block_length ≤ block_at k + x)
outside i k x d h = elim (dec_lt k i) [ yes l ↦ inl (omega arith) | no l ↦ inr (omega arith) ]

module _ (b : List ℕ) (size : length b ≡ book_length) (i : ℕ) (low : i < 12) (held : Option (List ℕ)) (full : length (block_of held) ≡ block_length) where
  at_same : At (put b i held) i held
  unfolding put
  at_same = record {
    mark = put-mark b size i low _ _ _ _ full;
    meter = put-meter b size i low _ _ _ _ full;
    bill = put-bill b size i low _ _ _ _ full;
    block = λ k h. put-block b size i low _ _ _ _ full k h ∙ block_at_lem held k;
  }

  stays : (x : ℕ) → x ≢ mark_at i → x ≢ meter_at i → x ≢ bill_at i → (x < block_at i) ⊎ (block_at i + block_length ≤ x) → get_or (put b i held) x 0 ≡ get_or b x 0
  unfolding put
  stays = put_other b size i low _ _ _ _ full

  at_other : (k : ℕ) → k < 12 → k ≢ i → (other : Option (List ℕ)) → At b k other → At (put b i held) k other
  at_other k h d other a = record {
    mark = stays (mark_at k) (omega arith) (omega arith) (omega arith) (inl (omega arith)) ∙ a.mark;
    meter = stays (meter_at k) (omega arith) (omega arith) (omega arith) (inl (omega arith)) ∙ a.meter;
    bill = stays (bill_at k) (omega arith) (omega arith) (omega arith) (inl (omega arith)) ∙ a.bill;
    block = λ x l. stays (block_at k + x) (omega arith) (omega arith) (omega arith) (outside i k x d l) ∙ a.block x l;
  }

module _ {n : ℕ} {b : List ℕ} {p : PlainBook} (h : Shows n b p) (month : ℕ) (first : 1 ≤ month) (last : month ≤ 12) where
  module _ (held : Option (List ℕ)) (g : IfHeld (Good n) held) where
    low : month - 1 < 12
    low = omega arith

    full : length (block_of held) ≡ block_length
    full = block-full n held g

    months-after : (k : ℕ) → k < 12 → Dec (k ≡ month - 1) → At (put b (month - 1) held) k (get_or (set p.months (month - 1) held) k none)
    months-after k l (yes e) = rw (e, get_or-set_same p.months (month - 1) held none (omega (arith, h.twelve))) (at_same b h.size (month - 1) low held full)
    months-after k l (no d) = rw (get_or-set_other p.months (month - 1) k held none d) (at_other b h.size (month - 1) low held full k l d _ (h.months k l))

    good-after : (k : ℕ) → k < 12 → Dec (k ≡ month - 1) → IfHeld (Good n) (get_or (set p.months (month - 1) held) k none)
    good-after k l (yes e) = rw (e, get_or-set_same p.months (month - 1) held none (omega (arith, h.twelve))) g
    good-after k l (no d) = rw (get_or-set_other p.months (month - 1) k held none d) (h.good k l)

    shows-put : Shows n (put b (month - 1) held) (now_holds p month held).after
    unfolding now_holds put
    shows-put =
        let st = stays b h.size (month - 1) low held full in
        record {
          size = put-length b (month - 1) _ _ _ _ ∙ h.size;
          few = h.few;
          count = st 0 (omega arith) (omega arith) (omega arith) (inl (omega arith)) ∙ h.count;
          plain-count = h.plain-count;
          ids = λ k l. st (ids_at + k) (omega arith) (omega arith) (omega arith) (inl (omega arith)) ∙ h.ids k l;
          as_many = h.as_many;
          twelve = rw length-set h.twelve;
          months = λ k l. months-after k l (ℕ_discrete k (month - 1));
          good = λ k l. good-after k l (ℕ_discrete k (month - 1));
        }

  pub shows-cleared : Shows n (clear_month b month) (now_holds p month none).after
  unfolding clear_month put block_of
  shows-cleared = shows-put none tt

pub shows-sheet : {n : ℕ} {b : List ℕ} {p : PlainBook} → Shows n b p → (sheet : List ℕ) → 1 ≤ (sheet_of sheet).month → (sheet_of sheet).month ≤ 12 → Good n sheet
    → Shows n (put_sheet b sheet) (now_holds p (sheet_of sheet).month (some sheet)).after
unfolding put_sheet put block_of
shows-sheet h sheet first last g = shows-put h (sheet_of sheet).month first last (some sheet) g

-- ---- a fresh book
pub shows-fresh : (sheet : List ℕ) → checked 32 sheet ≡ Ok tt → Shows (sheet_of sheet).unit_count (fresh_book sheet) (opened_plain sheet)
unfolding opened_plain
shows-fresh sheet e =
    let few : (sheet_of sheet).unit_count ≤ 160 = (fits 32 sheet e).header.unit_count in
    let nothing : (i : ℕ) → i < 12 → get_or (replicate {A = Option (List ℕ)} 12 none) i none ≡ none = λ i l. get_or-replicate {A = Option (List ℕ)} 12 i none none l in
    record {
      size = fresh-length sheet;
      few = few;
      count = fresh-count sheet;
      plain-count = refl;
      ids = λ i l. fresh-id sheet few i;
      as_many = ids-count sheet;
      twelve = refl;
      months = λ i l. rw (nothing i l) (record {
        mark = fresh-low sheet (mark_at i) (omega arith) (omega arith);
        meter = fresh-low sheet (meter_at i) (omega arith) (omega arith);
        bill = fresh-low sheet (bill_at i) (omega arith) (omega arith);
        block = λ k m. fresh-high sheet (block_at i + k) (omega arith);
      });
      good = λ i l. rw (nothing i l) tt;
    }

-- Each call on lists that match and show a plain book: the plain book's reply, and lists that show the plain book afterwards. Assumes nothing.
use Rattle.std.specs.Prelude.{if◌then◌else◌}
use mathlib.Core.Path.{◌≡◌, refl, ap, sym, subst, ◌∙◌}
use mathlib.Core.Bool.{Bool, true, false, not, ◌||◌}
use mathlib.Core.List.{List, map}
use mathlib.Core.Option.{Option, none, some}
use Prim.Native.Nat.{ℕ, ◌+◌, ◌*◌, ◌-◌, ◌≤◌, ◌<◌}
use native.Mathlib.Omega.{arith}
use native.Mathlib.Decide.{dec_lt}
use lib.Dec.{ltb, eqb}
use borrow.Author.Tests.{eqb-true, ltb-true, ltb-false, le-leb, not-true, not-false}
use lib.ListN.{length, get_or, length-replicate}
use Rattle.apportion.specs.Shares.{sum}
use Rattle.sheet.specs.declared.refusal.Refusal.TheVariants.{OtherBuilding, MonthState, NoSuchUnit}
use Rattle.sheet.specs.RuleSets.{newest}
use Rattle.sheet.specs.Check.{◌to◌, ◌within◌, passes}
use Rattle.sheet.specs.Layout.{sheet_of}
use Rattle.sheet.specs.Chains.{Step}
use Rattle.sheet.proofs.Passed.{in_range}
use Rattle.month.specs.Month.{Month, Settled, month_of, settled_sheet, statement_of}
use Rattle.month.specs.Laws.{sum_to}
use Rattle.month.proofs.Laws.{settled-month}
use Rattle.month.proofs.Lists.{sum_to_cong}
use Rattle.yearbook.specs.Calls.{Call, post, replace, withdraw, year, Reply, totals}
use Rattle.yearbook.specs.PlainBook.{PlainBook, has_sheet, stands, standing, sheets_of, not_kept, refuse, tell, now_holds, brought, withdrawn, told, called, number_in, unit_sums}
use Rattle.yearbook.specs.LentBook.{Lent, block_length, block_in, block_of, zero_block, unit_count_in, mark_at, marked, bad_book, other_building, if_marked, marks_in, sums_at, with_sheet, clear_month, place_of_month, lent_reply, lent_after, Answered}
use Rattle.yearbook.specs.Matches.{block_sum, Matches}
use Rattle.yearbook.proofs.Sums.{or_zero, sum-held, sum_ones, eight_cong}
use Rattle.year_sums.proofs.Lists.{neither}
use Rattle.yearbook.proofs.Sound.{sound-book}
use Rattle.year_sums.proofs.Lists.{zero-at}
use Rattle.yearbook.proofs.Stores.{zeros-after}
use Rattle.yearbook.proofs.Settled.{sheet-refused, own-month, sheet-accepted, block_length_lem}
use Rattle.yearbook.proofs.Blocks.{stored_counted, taken_counted}
use Rattle.yearbook.proofs.Never19.{number-below, good-sums}
use Rattle.yearbook.proofs.Building.{eqb-sym, same-sym}
use Rattle.yearbook.specs.declared.bring.Entry.{Entry}
use Rattle.yearbook.specs.declared.bring.Entry.TheVariants.{Post, Replace}
use Rattle.yearbook.specs.Inner.Bring.{bring_call, wrong_month, taken_off}
use Rattle.yearbook.proofs.Answers.{bring_refused, bring_16, bring_17, bring_accepted, withdraw-low, withdraw-high, withdraw_17, withdraw-accepted, tells_18, tells_totals}
use Rattle.yearbook.proofs.Shows.{At, Shows, if_marked_lem, shows-sound, shows-ids, shows-cleared, shows-sheet}

pub record Follows (n : ℕ) (l : Lent) (c : Call) (step : Step PlainBook Reply) : Type 0 where
  pub reply : lent_reply l c ≡ step.reply
  pub shows : Shows n (lent_after l c).book step.after

follows : {n : ℕ} {l l' : Lent} {c : Call} {r : Reply} {p : PlainBook} → Answered l c r l' → Shows n l'.book p → Follows n l c (record { reply = r; after = p })
follows {n} {p = p} a h = record { reply = sym a.reply; shows = subst (λ (x : Lent). Shows n x.book p) a.after h }

-- ---- a month of the list and of the plain book
marked_so : {b : List ℕ} {i : ℕ} (held : Option (List ℕ)) → At b i held → marked b i ≡ has_sheet held
marked_so none a = rw a.mark
marked_so (some s) a = rw a.mark

one-held : {b : List ℕ} {i : ℕ} (held : Option (List ℕ)) → At b i held → if_marked (get_or b (mark_at i) 0) 1 ≡ or_zero (λ s. 1) held
one-held none a = rw a.mark
one-held (some s) a = rw a.mark

module _ {n : ℕ} {l : Lent} {p : PlainBook} (h : Shows n l.book p) (m : Matches l) where
  abbrev b : List ℕ
  b = l.book

  sound : bad_book b ≡ false
  sound = sound-book b (shows-sound h)

  stands_so : (month : ℕ) → 1 ≤ month → month ≤ 12 → marked b (month - 1) ≡ stands p month
  unfolding stands
  stands_so month first last = marked_so (get_or p.months (month - 1) none) (h.months (month - 1) (omega arith))

  -- 16
  building_so : (sheet : List ℕ) → other_building b (sheet_of sheet) ≡ not_kept p (month_of newest (sheet_of sheet))
  unfolding other_building not_kept month_of
  building_so sheet =
      let s = sheet_of sheet in
      let ids = map (λ u. u.id) s.units in
      rw (shows-ids h, h.count, ← h.plain-count, eqb-sym p.unit_count s.unit_count, same-sym p.ids ids)

  -- ---- post and replace
  bring_so : (entry : Entry) (sheet : List ℕ) → settled_sheet newest sheet ≡ Settled.settled (month_of newest (sheet_of sheet))
      → (other wrong : Bool) → other_building b (sheet_of sheet) ≡ other → wrong_month entry b sheet ≡ wrong
      → Follows n l (bring_call entry sheet) (if other then refuse p OtherBuilding else if wrong then refuse p MonthState else now_holds p (sheet_of sheet).month (some sheet))
  unfolding now_holds other_building with_sheet
  bring_so w sheet e true u f g = follows (bring_16 w l sheet sound _ e f) h
  bring_so w sheet e false true f g = follows (bring_17 w l sheet sound _ e f g) h
  bring_so w sheet e false false f g =
      let fit = (sheet-accepted sheet e).checked-sheet.header in
      let units = eqb-true (unit_count_in b) (sheet_of sheet).unit_count (not-false (eqb (unit_count_in b) (sheet_of sheet).unit_count) (neither (not (eqb (unit_count_in b) (sheet_of sheet).unit_count)) _ f).0) in
      let low : place_of_month sheet < 12 = omega (arith, fit.month) in
      let good = good-sums h m (place_of_month sheet) low (taken_off w b sheet) (block_of sheet) (taken_counted w b sheet h.size low g) (block_length_lem sheet e) (λ k.
      let same = zeros-after (statement_of newest (sheet_of sheet)) (block_length - 8 * (sheet_of sheet).unit_count) k in omega (arith, same, number-below sheet e k)) in
      follows (bring_accepted w l sheet sound _ e f g good) (shows-sheet h sheet fit.month_low fit.month (record { settles = e; units = sym units ∙ h.count }))

  in_year : (sheet : List ℕ) → settled_sheet newest sheet ≡ Settled.settled (month_of newest (sheet_of sheet)) → marked b (place_of_month sheet) ≡ stands p (sheet_of sheet).month
  in_year sheet e =
      let fit = (sheet-accepted sheet e).checked-sheet.header in
      stands_so (sheet_of sheet).month fit.month_low fit.month

  sheet_so : (entry : Entry) (sheet : List ℕ) (wrong : ℕ → Bool)
      → (settled_sheet newest sheet ≡ Settled.settled (month_of newest (sheet_of sheet)) → wrong_month entry b sheet ≡ wrong (sheet_of sheet).month)
      → Follows n l (bring_call entry sheet) (brought p sheet wrong (settled_sheet newest sheet))
  unfolding brought month_of
  sheet_so w sheet wrong k = go (settled_sheet newest sheet) refl
    where
      go : (o : Settled) → settled_sheet newest sheet ≡ o → Follows n l (bring_call w sheet) (brought p sheet wrong o)
      go (Settled.refused r) e = follows (bring_refused w l sheet sound r (sheet-refused sheet r e)) h
      go (Settled.settled m) e =
          let own = own-month sheet e in
          subst (λ (x : Month). Follows n l (bring_call w sheet) (brought p sheet wrong (Settled.settled x))) (sym (settled-month newest sheet m e).1)
          (bring_so w sheet own _ _ (building_so sheet) (k own))

  -- ---- withdraw
  withdraw_so : (month : ℕ) → Follows n l (withdraw month) (called p (withdraw month))
  unfolding called withdrawn now_holds clear_month
  withdraw_so month = go (not (passes (month within 1 to 12)) || not (stands p month)) refl
    where
      go : (t : Bool) → (not (passes (month within 1 to 12)) || not (stands p month)) ≡ t → Follows n l (withdraw month) (if t then refuse p MonthState else now_holds p month none)
      go false e =
          let k = neither (not (passes (month within 1 to 12))) _ e in
          let r = in_range month (1 to 12) (not-false _ k.0) in
          let low : month - 1 < 12 = omega (arith, r.0, r.1) in
          let standing-now = stands_so month r.0 r.1 ∙ not-false _ k.1 in
          let zeros : (k : ℕ) → get_or zero_block k 0 < 4294967296 = λ k. let z = zero-at block_length k in omega (arith, z) in
          follows (withdraw-accepted l month sound (month - 1) (omega (arith, r.0)) low standing-now (good-sums h m (month - 1) low (block_in b (month - 1)) zero_block (stored_counted b h.size (month - 1) low standing-now) (length-replicate {A = ℕ} block_length 0) zeros)) (shows-cleared h month r.0 r.1)
      go true e = elim (dec_lt month 1) [
        | yes x ↦ follows (withdraw-low l month sound x) h
        | no x ↦ elim (dec_lt 12 month) [
          | yes y ↦ follows (withdraw-high l month sound y) h
          | no y ↦
              let first : 1 ≤ month = omega arith in
              let last : month ≤ 12 = omega arith in
              let gone : not (stands p month) ≡ true = rw (le-leb 1 month first, le-leb month 12 last) at e in
              follows (withdraw_17 l month sound (month - 1) (omega arith) (omega arith) (stands_so month first last ∙ not-true _ gone)) h
        ]
      ]

  -- ---- year
  pub marks_so : marks_in b ≡ length (standing p)
  unfolding marks_in
  marks_so =
      sum_to_cong 12 _ _ (λ i l. one-held _ (h.months i l))
      ∙ ap (λ (k : ℕ). sum_to k (λ i. or_zero (λ s. 1) (get_or p.months i none))) (sym h.twelve)
      ∙ sum-held p.months (λ s. 1)
      ∙ sum_ones (sheets_of p.months)

  block_sum_so : (at : ℕ) → at < block_length → block_sum b at ≡ sum (map (λ s. get_or (statement_of newest (sheet_of s)) at 0) (standing p))
  unfolding block_sum
  block_sum_so at l =
      let f : List ℕ → ℕ = λ s. get_or (statement_of newest (sheet_of s)) at 0 in
      sum_to_cong 12 _ _ (λ i m. if_marked_lem f _ (h.months i m) ((h.months i m).block at l))
      ∙ ap (λ (k : ℕ). sum_to k (λ i. or_zero f (get_or p.months i none))) (sym h.twelve)
      ∙ sum-held p.months f

  pub year_sums_so : (place : ℕ) → place < n → sums_at l.sums place ≡ unit_sums p place
  unfolding sums_at unit_sums number_in
  year_sums_so place f = eight_cong _ _ (λ j x. let few : 8 * place + j < block_length = omega (arith, h.few) in m.each (8 * place + j) few ∙ block_sum_so (8 * place + j) few)

  pub year-call : (place : ℕ) → place < n → Answered l (year place) (totals (length (standing p)) (unit_sums p place)) l
  year-call place f = rw (← marks_so, ← year_sums_so place f) (tells_totals l place sound (omega (arith, h.count)) m.size).answered

  year_so : (place : ℕ) → Follows n l (year place) (called p (year place))
  unfolding called told
  year_so place = go (ltb place p.unit_count) refl
    where
      go : (t : Bool) → ltb place p.unit_count ≡ t → Follows n l (year place) (if not t then refuse p NoSuchUnit else tell p (length (standing p)) (unit_sums p place))
      go false e = follows (tells_18 l place sound (omega (arith, ltb-false place p.unit_count e, h.count, h.plain-count))).answered h
      go true e = follows (year-call place (omega (arith, ltb-true place p.unit_count e, h.plain-count))) h

  -- ---- any call
  pub call_so : (c : Call) → Follows n l c (called p c)
  unfolding called
  call_so (post sheet) = sheet_so Post sheet (λ month. stands p month) (λ e. in_year sheet e)
  call_so (replace sheet) = sheet_so Replace sheet (λ month. not (stands p month)) (λ e. ap not (in_year sheet e))
  call_so (withdraw month) = withdraw_so month
  call_so (year place) = year_so place

-- Demand 3 (specs/Theorem.antt). Assumes nothing.
use mathlib.Core.Path.{◌≡◌, sym, subst, ◌∙◌}
use mathlib.Core.Logic.{◌≢◌}
use mathlib.Core.List.{List, map}
use Prim.Native.Nat.{ℕ, ◌+◌, ◌<◌}
use native.Mathlib.Omega.{arith}
use lib.ListN.{get_or}
use Rattle.apportion.specs.Shares.{sum}
use Rattle.sheet.specs.declared.refusal.Refusal.TheVariants.{BadYearSums}
use Rattle.sheet.specs.RuleSets.{newest}
use Rattle.sheet.specs.Layout.{sheet_of}
use Rattle.sheet.specs.Tests.{Each}
use Rattle.sheet.specs.Chains.{CallsMade, replies, after_all}
use Rattle.sheet.proofs.Chains.{all_follow}
use Rattle.month.specs.Fraction.{Near}
use Rattle.month.specs.Month.{bill_cents, month_of}
use Rattle.month.specs.Portions.{energy_portion, bill_part}
use Rattle.month.specs.Laws.{sum_to, MonthLaws}
use Rattle.month.proofs.Nearness.{near_more}
use Rattle.month.proofs.Laws.{settled-laws}
use Rattle.month.proofs.Lists.{sum_to_cong}
use Rattle.yearbook.specs.Calls.{Call, Reply, refused}
use Rattle.yearbook.specs.PlainBook.{PlainBook, opened_plain, standing, number_in, unit_sums, called}
use Rattle.yearbook.specs.LentBook.{Lent, Answered}
use Rattle.yearbook.specs.Matches.{Matches}
use Rattle.yearbook.specs.Theorem.{Kept, EveryListOfCalls}
use Rattle.yearbook.proofs.Sums.{each-held, each_map, sums_swap, sum_cong, near_sum, eight-at}
use Rattle.yearbook.proofs.Answers.{open_accepted}
use Rattle.yearbook.proofs.Shows.{Good, Shows, shows-fresh}
use Rattle.yearbook.proofs.Matches.{match_fresh, match_kept}
use Rattle.yearbook.proofs.Never19.{plain_never}
use Rattle.yearbook.proofs.Steps.{year-call, call_so}

-- ---- a list of calls
run : {n : ℕ} {l l' : Lent} {cs : List Call} {rs : List Reply} → CallsMade Answered l cs rs l' → (p : PlainBook) → Shows n l.book p × Matches l
    → (rs ≡ replies called p cs) × (Shows n l'.book (after_all called p cs) × Matches l')
run {n} = all_follow (λ l p. Shows n l.book p × Matches l) (λ l l' c r p a h.
    let f = call_so h.0 h.1 c in
    (a.reply ∙ f.reply, (subst (λ (x : Lent). Shows n x.book (called p c).after) (sym a.after) f.shows, match_kept l l' c r a h.1)))

-- ---- the laws of the standing months
laws : {n : ℕ} {sheet : List ℕ} → Good n sheet → MonthLaws newest (sheet_of sheet) (month_of newest (sheet_of sheet))
laws {sheet = sheet} g = settled-laws newest sheet (month_of newest (sheet_of sheet)) g.settles

sum-at : (p : PlainBook) (u j : ℕ) → j < 8 → get_or (unit_sums p u) j 0 ≡ sum (map (number_in u j) (standing p))
unfolding unit_sums
sum-at p u j l = eight-at (λ j. sum (map (number_in u j) (standing p))) j l

-- four of the eight numbers, from number `at` on, summed over units and months
sums-of_all : (p : PlainBook) (n : ℕ) (at : ℕ → ℕ) → ((j : ℕ) → j < 4 → at j < 8) → (whole : List ℕ → ℕ)
    → Each (λ s. sum_to n (λ u. sum_to 4 (λ j. number_in u (at j) s)) ≡ whole s) (standing p)
    → sum_to n (λ u. sum_to 4 (λ j. get_or (unit_sums p u) (at j) 0)) ≡ sum (map whole (standing p))
sums-of_all p n at few whole h =
    sum_to_cong n _ _ (λ u x. sum_to_cong 4 _ _ (λ j l. sum-at p u (at j) (few j l)) ∙ sums_swap 4 (standing p) (λ j. number_in u (at j)))
    ∙ sums_swap n (standing p) (λ u s. sum_to 4 (λ j. number_in u (at j) s))
    ∙ sum_cong (standing p) _ whole h

module _ {n : ℕ} {l : Lent} {p : PlainBook} (h : Shows n l.book p) (m : Matches l) where
  good : Each (Good n) (standing p)
  good = each-held (Good n) p.months (λ i l. h.good i (omega (arith, h.twelve)))

  energies : (s : List ℕ) → Good n s → sum_to n (λ u. sum_to 4 (λ j. number_in u j s)) ≡ (sheet_of s).shared_meter
  unfolding number_in month_of
  energies s g = subst (λ (k : ℕ). sum_to k (λ u. sum_to 4 (λ j. number_in u j s)) ≡ (sheet_of s).shared_meter) g.units (laws g).energies_add

  cents : (s : List ℕ) → Good n s → sum_to n (λ u. sum_to 4 (λ j. number_in u (4 + j) s)) ≡ bill_cents (sheet_of s)
  unfolding number_in month_of
  cents s g = subst (λ (k : ℕ). sum_to k (λ u. sum_to 4 (λ j. number_in u (4 + j) s)) ≡ bill_cents (sheet_of s)) g.units (laws g).cents_add

  energy_of : (u j : ℕ) → u < n → j < 4 → (s : List ℕ) → Good n s → Near (number_in u j s) (energy_portion newest (sheet_of s) u j) 4
  unfolding number_in month_of
  energy_of u j x y s g = (laws g).energy_near u j (omega (arith, g.units)) y

  cents_of_lem : (u j : ℕ) → u < n → j < 4 → (s : List ℕ) → Good n s → Near (number_in u (4 + j) s) (bill_part newest (sheet_of s) u j) 1
  unfolding number_in month_of
  cents_of_lem u j x y s g = (laws g).cents_near u j (omega (arith, g.units)) y

  kept : Kept n p l
  kept = record {
    year-calls = year-call h m;
    settled-months = each_map (λ s g. g.settles) (standing p) good;
    energies_add = sums-of_all p n (λ j. j) (λ j l. omega arith) _ (each_map energies (standing p) good);
    cents_add = sums-of_all p n (λ j. 4 + j) (λ j l. omega arith) _ (each_map cents (standing p) good);
    energy_near = λ u j x y. rw (sum-at p u j (omega arith)) (near_sum (standing p) _ _ 4 (each_map (λ s g. energy_of u j x y s g) (standing p) good));
    cents_near = λ u j x y. rw (sum-at p u (4 + j) (omega arith))
        (near_more (omega arith) (near_sum (standing p) _ _ 1 (each_map (λ s g. cents_of_lem u j x y s g) (standing p) good)));
    matches = m;
  }

-- ---- the theorem
pub every_list_of_calls : EveryListOfCalls
every_list_of_calls before start l opening o calls answers size count passes opens made =
    let fresh = open_accepted before opening size passes count in
    let start_is = fresh.after ∙ sym opens.after in
    let shown = subst (λ (x : Lent). Shows (sheet_of opening).unit_count x.book (opened_plain opening)) start_is (shows-fresh opening passes) in
    let all = run made (opened_plain opening) (shown, subst Matches start_is (match_fresh opening)) in
    record {
      opens = opens.answer ∙ sym fresh.answer;
      same-replies = all.0;
      never_19 = subst (Each (λ r. r ≢ refused BadYearSums)) (sym all.0) (plain_never (opened_plain opening) calls);
      kept = kept all.1.0 all.1.1;
    }

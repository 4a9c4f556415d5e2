-- 2026-02: on lists that match and show a plain book no update goes below zero or past 64 bits; the plain book never answers 19. Assumes nothing.
use Rattle.std.specs.Prelude.{if◌then◌else◌, Ok, Err}
use mathlib.Core.Path.{◌≡◌, sym, ap, subst}
use mathlib.Core.Logic.{◌≢◌, inl, inr}
use mathlib.Core.Bool.{Bool, true, false, not, ◌||◌}
use mathlib.Core.List.{List, [], ◌∷◌}
use mathlib.Core.Option.{Option, none, some}
use Prim.Native.Nat.{ℕ, zero, suc, ◌+◌, ◌*◌, ◌-◌, ◌≤◌, ◌<◌}
use native.Mathlib.Omega.{arith}
use native.Mathlib.Decide.{ℕ_discrete}
use lib.Dec.{ltb}
use borrow.Author.Tests.{le-ltb}
use lib.ListN.{length, get_or}
use Rattle.sheet.specs.declared.refusal.Refusal.{Refusal}
use Rattle.sheet.specs.declared.refusal.Refusal.TheVariants.{OtherBuilding, MonthState, NoSuchUnit, BadYearSums}
use Rattle.sheet.specs.Refusals.{Outcome, first_refusal, number_of}
use Rattle.sheet.specs.Tests.{Each}
use Rattle.sheet.specs.Chains.{Step, replies}
use Rattle.sheet.specs.RuleSets.{newest}
use Rattle.sheet.specs.Check.{◌to◌, ◌within◌, passes, sheet_rules}
use Rattle.sheet.specs.Inner.Places.{IfRefused, UpTo}
use Rattle.sheet.specs.Layout.{sheet_of}
use Rattle.sheet.proofs.Places.{both_first, sheet-first}
use Rattle.month.specs.Month.{Settled, month_rules, settle_rules, month_of, statement_of, settled_sheet, unless_refused}
use Rattle.month.specs.Laws.{sum_to}
use Rattle.month.proofs.Laws.{settled-laws}
use Rattle.month.proofs.Places.{month-first}
use Rattle.yearbook.specs.Calls.{Call, post, replace, withdraw, year, Reply, refused}
use Rattle.year_sums.specs.YearSums.{most64, bad_sums}
use Rattle.yearbook.specs.LentBook.{Lent, mark_at, block_at, block_length, if_marked}
use Rattle.yearbook.specs.Matches.{block_sum, Matches}
use Rattle.yearbook.specs.PlainBook.{PlainBook, stands, not_kept, refuse, now_holds, brought, withdrawn, told, called}
use Rattle.year_sums.proofs.Lists.{none_of_two}
use Rattle.year_sums.proofs.Updating.{not-bad}
use Rattle.yearbook.proofs.Sums.{or_zero, IfHeld}
use Rattle.yearbook.proofs.Blocks.{Counted}
use Rattle.yearbook.proofs.Shows.{Good, Shows, if_marked_lem}

-- ---- a sum and its terms
term_le : (n : ℕ) (f : ℕ → ℕ) (i : ℕ) → i < n → f i ≤ sum_to n f
unfolding sum_to
term_le zero f i h = absurd (omega arith)
term_le (suc n) f i h = elim (ℕ_discrete i n) [
  | yes e ↦ let same = ap f e in omega (arith, same)
  | no d ↦ omega (arith, term_le n f i (omega arith))
]

sum-most : (n : ℕ) (f : ℕ → ℕ) (k : ℕ) → ((i : ℕ) → i < n → f i ≤ k) → sum_to n f ≤ n * k
unfolding sum_to
sum-most zero f k h = omega arith
sum-most (suc n) f k h = let last = h n (omega arith) in let rest = sum-most n f k (λ i l. h i (omega arith)) in omega arith

-- ---- numbers of 32 bits
each_at : (xs : List ℕ) (b : ℕ) → 0 < b → Each (λ x. x < b) xs → (k : ℕ) → get_or xs k 0 < b
each_at [] b p h k = p
each_at (x ∷ xs) b p h zero = h.0
each_at (x ∷ xs) b p h (suc k) = each_at xs b p h.1 k

pub number-below : (sheet : List ℕ) → settled_sheet newest sheet ≡ Settled.settled (month_of newest (sheet_of sheet)) → (k : ℕ) → get_or (statement_of newest (sheet_of sheet)) k 0 < 4294967296
unfolding month_of
number-below sheet e k = each_at (statement_of newest (sheet_of sheet)) 4294967296 (omega arith) (settled-laws newest sheet (month_of newest (sheet_of sheet)) e).fit_32_bits k

module _ {n : ℕ} {l : Lent} {p : PlainBook} (h : Shows n l.book p) (m : Matches l) where
  term_below : (at i : ℕ) → at < block_length → i < 12 → if_marked (get_or l.book (mark_at i) 0) (get_or l.book (block_at i + at) 0) ≤ 4294967295
  term_below at i few low = subst (λ (x : ℕ). x ≤ 4294967295) (sym (if_marked_lem f _ (h.months i low) ((h.months i low).block at few))) (go (get_or p.months i none) (h.good i low))
    where
      f : List ℕ → ℕ
      f s = get_or (statement_of newest (sheet_of s)) at 0

      go : (held : Option (List ℕ)) → IfHeld (Good n) held → or_zero f held ≤ 4294967295
      go none g = omega arith
      go (some s) g = let b = number-below s g.settles at in omega arith

  -- twelve numbers of 32 bits, less one of them, and another
  pub good-sums : (i : ℕ) → i < 12 → (old block : List ℕ) → Counted l.book i old → length block ≡ block_length → ((k : ℕ) → get_or block k 0 < 4294967296) → bad_sums l.sums old block ≡ false
  unfolding block_sum
  good-sums i low old block has full few = not-bad l.sums old block m.size has.full full (λ k h'.
      let term : ℕ → ℕ = λ i. if_marked (get_or l.book (mark_at i) 0) (get_or l.book (block_at i + k) 0) in
      let sum = m.each k h' in
      let off = has.each k h' in
      let least = term_le 12 term i low in
      let most = sum-most 12 term 4294967295 (λ i low. term_below k i h' low) in
      let x = get_or l.sums k 0 in let o = get_or old k 0 in
      none_of_two (le-ltb x o (omega (arith, sum, off, least))) (le-ltb most64 (x - o + get_or block k 0) (omega (arith, sum, off, most, few k))))

-- ---- the plain book never answers 19
other_than_19 : (k : ℕ) → k < 19 → (r : Refusal) → UpTo k r → r ≢ BadYearSums
other_than_19 k l r (inl h) e = let same = ap number_of e in omega (arith, same)
other_than_19 k l r (inr h) e = let same = ap number_of e in omega (arith, same)

settle_never : (sheet : List ℕ) → IfRefused (λ r. r ≢ BadYearSums) (first_refusal (settle_rules sheet))
unfolding settle_rules
settle_never sheet =
    both_first (λ r. r ≢ BadYearSums) (sheet_rules 32 sheet) (month_rules (sheet_of sheet))
    (sheet-first (λ r. r ≢ BadYearSums) (λ r h _. other_than_19 7 (omega arith) r h) 32 sheet)
    (λ _. month-first (λ r. r ≢ BadYearSums) (λ r h _. other_than_19 12 (omega arith) r h) (sheet_of sheet))

not-refused : {r : Refusal} → r ≢ BadYearSums → refused r ≢ refused BadYearSums
not-refused d e = d cc

step_never : (t : Bool) (p : PlainBook) (r : Refusal) (step : Step PlainBook Reply) → r ≢ BadYearSums → step.reply ≢ refused BadYearSums → (if t then refuse p r else step).reply ≢ refused BadYearSums
step_never true p r step d f = not-refused d
step_never false p r step d f = f

brought_never : (p : PlainBook) (sheet : List ℕ) (wrong : ℕ → Bool) → (brought p sheet wrong (settled_sheet newest sheet)).reply ≢ refused BadYearSums
unfolding brought settled_sheet now_holds
brought_never p sheet wrong = go (first_refusal (settle_rules sheet)) (settle_never sheet)
  where
    go : (o : Outcome) → IfRefused (λ r. r ≢ BadYearSums) o → (brought p sheet wrong (unless_refused o (month_of newest (sheet_of sheet)))).reply ≢ refused BadYearSums
    go (Err r) d = not-refused d
    go (Ok tt) d =
        step_never (not_kept p (month_of newest (sheet_of sheet))) p OtherBuilding _ (λ e. absurd (let z : ◌≡◌ {A = ℕ} 16 19 = ap number_of e in omega arith))
        (step_never (wrong (month_of newest (sheet_of sheet)).month) p MonthState _ (λ e. absurd (let z : ◌≡◌ {A = ℕ} 17 19 = ap number_of e in omega arith))
        (λ e. absurd (let z : ◌≡◌ {A = ℕ} 0 1 = cc in omega arith)))

call_never : (p : PlainBook) (c : Call) → (called p c).reply ≢ refused BadYearSums
unfolding called withdrawn told now_holds
call_never p (post sheet) = brought_never p sheet (λ month. stands p month)
call_never p (replace sheet) = brought_never p sheet (λ month. not (stands p month))
call_never p (withdraw month) =
    step_never (not (passes (month within 1 to 12)) || not (stands p month)) p MonthState _ (λ e. absurd (let z : ◌≡◌ {A = ℕ} 17 19 = ap number_of e in omega arith))
    (λ e. absurd (let z : ◌≡◌ {A = ℕ} 0 1 = cc in omega arith))
call_never p (year place) =
    step_never (not (ltb place p.unit_count)) p NoSuchUnit _ (λ e. absurd (let z : ◌≡◌ {A = ℕ} 18 19 = ap number_of e in omega arith))
    (λ e. absurd (let z : ◌≡◌ {A = ℕ} 0 1 = cc in omega arith))

pub plain_never : (p : PlainBook) (cs : List Call) → Each (λ r. r ≢ refused BadYearSums) (replies called p cs)
unfolding replies
plain_never p [] = tt
plain_never p (c ∷ cs) = (call_never p c, plain_never (called p c).after cs)

-- Laws of the lines: how long they are, and one word or one unit further. Assumes nothing.
use mathlib.Core.Path.{◌≡◌, refl, ap}
use mathlib.Core.List.{List, [], ◌∷◌, ◌++◌, map}
use Prim.Native.Nat.{ℕ, suc, ◌+◌, ◌*◌, ◌≤◌, ◌<◌}
use native.Mathlib.Omega.{arith}
use native.Mathlib.Numerals.{add-one}
use lib.ListN.{length, get_or, take, drop, length-append, length-take, length-drop}
use lib.Seq.{get_or-take, get_or-drop, take_at, drop_at, drop-cons}
use Rattle.sheet.specs.declared.refusal.Refusal.{Refusal}
use Rattle.sheet.specs.declared.refusal.Refusal.TheVariants.{TooShort, BadMagic, UnsupportedVersion, HeaderField, WrongLength, RowField, IdOrder, HotWaterExceedsMeter, ZeroDivisor, NoReadings, MetersExceedHeat, UnmeteredExceedsHeat, BufferLength, BadArchive, BadYearBook, OtherBuilding, MonthState, NoSuchUnit, BadYearSums, FieldConflict, NegativeCommonHeat, BadGroup, FundShort, RateTooHigh, FundFull}
use Rattle.sheet.specs.Refusals.{number_of, place_of}
use Rattle.sheet.specs.declared.rule_set.RuleSet.{RuleSet}
use Rattle.sheet.specs.RuleSets.{newest}
use Rattle.sheet.specs.Layout.{UnitRow, Sheet, byte, unit_row, sheet_of}
use Rattle.sheet.specs.Inner.Fits.{Fits}
use Rattle.sheet.proofs.Units.{ids-count, id-at, unit-at}
use Rattle.month.specs.Month.{Month, bill_cents, settled, statement_of, month_of}
use Rattle.month.proofs.Accepted.{fits-checked}
use Rattle.month.proofs.Bounds.{sum_bounds}
use Rattle.printing.specs.Text.{ascii, decimal, further, line}
use Rattle.printing.specs.Printed.{first_line, unit_lines, refusal_line, text_of, longest}
use Rattle.printing.specs.Inner.Placed.{AreBytes}
use Rattle.printing.proofs.Decimals.{decimal-short, decimal_most}

-- ---- a line in the parts that the code puts, and how long it is
module _ (r : Refusal) {number place : ℕ} (is₁ : number ≡ number_of r) (is₂ : place ≡ place_of r) where
  pub refusal_line_parts : (ascii "refused " ++ decimal number) ++ ((ascii " " ++ decimal place) ++ ascii "\n") ≡ refusal_line r
  unfolding refusal_line
  refusal_line_parts = rw (is₁, is₂)

  pub refusal_line-long : length (refusal_line r) ≡ 10 + length (decimal number) + length (decimal place)
  refusal_line-long = rw (← refusal_line_parts) (simp length-append (omega arith))

pub number_le : (r : Refusal) → number_of r ≤ 25
number_le TooShort = omega arith
number_le BadMagic = omega arith
number_le UnsupportedVersion = omega arith
number_le (HeaderField k) = omega arith
number_le WrongLength = omega arith
number_le (RowField i) = omega arith
number_le (IdOrder i) = omega arith
number_le HotWaterExceedsMeter = omega arith
number_le ZeroDivisor = omega arith
number_le NoReadings = omega arith
number_le MetersExceedHeat = omega arith
number_le UnmeteredExceedsHeat = omega arith
number_le BufferLength = omega arith
number_le BadArchive = omega arith
number_le BadYearBook = omega arith
number_le OtherBuilding = omega arith
number_le MonthState = omega arith
number_le NoSuchUnit = omega arith
number_le BadYearSums = omega arith
number_le (FieldConflict i) = omega arith
number_le NegativeCommonHeat = omega arith
number_le BadGroup = omega arith
number_le FundShort = omega arith
number_le RateTooHigh = omega arith
number_le FundFull = omega arith

pub refusal_short : (r : Refusal) → length (refusal_line r) ≤ 49
refusal_short r = omega (arith, refusal_line-long r refl refl, number_le r, decimal-short 1 (number_of r) (omega (arith, number_le r)), decimal_most (place_of r))

-- the numbers of the first line
pub record FirstLine (m : Month) (a b c d : ℕ) : Type 0 where
  pub month : a ≡ m.month
  pub count : b ≡ m.unit_count
  pub meter : c ≡ m.meter
  pub bill : d ≡ m.bill

module _ {m : Month} {month count meter bill : ℕ} (are : FirstLine m month count meter bill) where
  pub first_line_parts : (ascii "month " ++ decimal month) ++ ((ascii " units " ++ decimal count) ++ ((ascii " wh " ++ decimal meter) ++ ((ascii " cents " ++ decimal bill) ++ ascii "\n"))) ≡ first_line m
  unfolding first_line
  first_line_parts = rw (are.month, are.count, are.meter, are.bill)

  pub first_line-long : length (first_line m) ≡ 25 + length (decimal month) + length (decimal count) + length (decimal meter) + length (decimal bill)
  first_line-long = rw (← first_line_parts) (simp length-append (omega arith))

pub first_short : {perUnit : ℕ} {bytes : List ℕ} → Fits perUnit bytes → length (first_line (month_of newest (sheet_of bytes))) ≤ 49
unfolding month_of
first_short {bytes = bytes} fits =
    let s = sheet_of bytes in
    let h = fits.header in
    let month = decimal-short 1 s.month (omega arith) in
    let count = decimal-short 2 s.unit_count (omega arith) in
    let meter = decimal-short 9 s.shared_meter (omega arith) in
    let bill = decimal-short 8 (bill_cents s) (omega (arith, (sum_bounds s (fits-checked fits)).bill)) in
    omega (arith, first_line-long {m = month_of newest s} (record { month = refl; count = refl; meter = refl; bill = refl }))

-- ---- one number further
pub further-next : (numbers : List ℕ) (j : ℕ) → j < length numbers → further (map decimal (drop j numbers)) ≡ (ascii " " ++ decimal (get_or numbers j 0)) ++ further (map decimal (drop (j + 1) numbers))
further-next numbers j h = rw (add-one, drop-cons numbers j 0 h)

-- ---- one unit further
pub lines_next : (us : List UnitRow) (u : UnitRow) (more : List UnitRow) (ns numbers behind : List ℕ) {id : ℕ} → us ≡ u ∷ more → ns ≡ numbers ++ behind → length numbers ≡ 8 → id ≡ u.id
    → unit_lines (map (λ u. u.id) us) ns ≡ line (decimal id) (map decimal numbers) ++ unit_lines (map (λ u. u.id) more) behind
unfolding unit_lines
lines_next us u more ns numbers behind cut cut-numbers eight is = rw (cut, cut-numbers, is, take_at numbers behind 8 eight, drop_at numbers behind 8 eight)

pub lines_none : (us : List UnitRow) (ns : List ℕ) → length us ≡ 0 → unit_lines (map (λ u. u.id) us) ns ≡ []
unfolding unit_lines
lines_none [] ns e = refl
lines_none (u ∷ us) ns e = absurd (omega arith)

-- ---- how long the lines of the units are, where ids and numbers have 32 bits
abbrev Fits32 : List ℕ → Type 0
Fits32 ns = (k : ℕ) → k < length ns → get_or ns k 0 < 4294967296

further_short : (ns : List ℕ) → Fits32 ns → length (further (map decimal ns)) ≤ 11 * length ns + 1
further_short [] h = omega arith
further_short (n ∷ ns) h =
    let low : n < 4294967296 = h 0 (omega arith) in
    omega (arith, length-append (decimal n) (further (map decimal ns)), decimal-short 9 n (omega arith), further_short ns (λ k l. h (suc k) (omega arith)))

units_short : (ids ns : List ℕ) → Fits32 ids → Fits32 ns → length (unit_lines ids ns) ≤ 99 * length ids
unfolding unit_lines
units_short [] ns h l = omega arith
units_short (id ∷ more) ns h l =
    let low : id < 4294967296 = h 0 (omega arith) in
    let few = length-take 8 ns in
    let eight = further_short (take 8 ns) (λ k m. let inside : k < 8 = omega arith in rw (get_or-take 8 ns k 0 inside) (l k (omega arith))) in
    let others = units_short more (drop 8 ns) (λ k m. h (suc k) (omega arith)) (λ k m. rw (get_or-drop 8 ns k 0) (l (8 + k) (omega (arith, length-drop 8 ns)))) in
    omega (
      arith,
      length-append (line (decimal id) (map decimal (take 8 ns))) (unit_lines more (drop 8 ns)),
      length-append (decimal id) (further (map decimal (take 8 ns))),
      decimal-short 9 id (omega arith),
    )

-- the ids of a sheet in bytes
ids_fit : (bytes : List ℕ) → AreBytes bytes → Fits32 (month_of newest (sheet_of bytes)).ids
unfolding month_of unit_row
ids_fit bytes low k h =
    let at = 48 + 32 * k in
    let inside : k < (sheet_of bytes).unit_count = omega (arith, ids-count bytes) in
    let is = ap (λ (u : UnitRow). u.id) (unit-at bytes k inside) in
    let here : (j : ℕ) → j < 32 → byte (take 32 (drop at bytes)) j < 256 = λ j l. rw (get_or-take 32 (drop at bytes) j 0 l, get_or-drop at bytes j 0) (low (at + j)) in
    omega (arith, id-at (sheet_of bytes) k, is, here 0 (omega arith), here 1 (omega arith), here 2 (omega arith), here 3 (omega arith))

-- ---- the text of a settled month
pub month_text : (rules : RuleSet) (s : Sheet) (statement : List ℕ) → statement ≡ statement_of rules s → first_line (month_of rules s) ++ unit_lines (month_of rules s).ids statement ≡ text_of (settled (month_of rules s))
unfolding month_of
month_text rules s statement e = ap (λ (ns : List ℕ). first_line (month_of rules s) ++ unit_lines (month_of rules s).ids ns) e

pub month_short : (bytes statement : List ℕ) → Fits 32 bytes → AreBytes bytes → ((k : ℕ) → get_or statement k 0 < 4294967296) → statement ≡ statement_of newest (sheet_of bytes)
    → length (text_of (settled (month_of newest (sheet_of bytes)))) ≤ longest (settled (month_of newest (sheet_of bytes)))
unfolding month_of
month_short bytes statement fits low numbers e =
    let m = month_of newest (sheet_of bytes) in
    omega (
      arith,
      units_short m.ids statement (ids_fit bytes low) (λ k h. numbers k),
      ids-count bytes,
      first_short fits,
      ap length (month_text newest (sheet_of bytes) statement e),
      length-append (first_line m) (unit_lines m.ids statement),
    )

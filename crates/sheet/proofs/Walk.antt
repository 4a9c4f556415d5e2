-- The check one field and one row at a time: what the loops over fields and rows use. Assumes nothing.
use mathlib.Core.Path.{◌≡◌, refl, sym, ap, ap₂, ◌∙◌}
use mathlib.Core.Bool.{Bool, true, false, not}
use mathlib.Core.List.{List, [], ◌∷◌, ◌++◌, map}
use mathlib.Core.Option.{Option, some}
use Prim.Native.Nat.{ℕ, zero, suc, ◌+◌, ◌≤◌, ◌<◌}
use native.Mathlib.Omega.{arith}
use native.Mathlib.Numerals.{add-one}
use lib.ListN.{length, get_or, drop, drop_of_length-le, get_or-map}
use Rattle.sheet.specs.declared.header.Field.{Field as HeaderField}
use Rattle.sheet.specs.declared.header.Field.TheVariants.{Month}
use Rattle.sheet.specs.declared.header.TheConstants.{FIELDS as HEADER_FIELDS}
use Rattle.sheet.specs.declared.rows.Field.{Field as RowField}
use Rattle.sheet.specs.declared.rows.Field.TheVariants.{Id}
use Rattle.sheet.specs.declared.tables.TheConstants.{ROW_FIELDS}
use Rattle.sheet.specs.declared.ranges.Range.{Range}
use Rattle.sheet.specs.Refusals.{Outcome, Rule, ◌⇒◌, first_refusal}
use Rattle.std.specs.Prelude.{Ok, Err}
use Rattle.sheet.specs.declared.refusal.Refusal.TheVariants.{TooShort, HeaderField as AtByte, IdOrder}
use Rattle.sheet.specs.Tests.{Each}
use Rattle.sheet.specs.Layout.{UnitRow, sheet_of}
use Rattle.sheet.specs.Inner.Fields.{unit_of, id_before, row_field, header_field}
use Rattle.sheet.specs.Inner.FieldRanges.{header_range, header_offset, value_of, fixed_range, allowed, row_ranges, refusal_by}
use Rattle.sheet.specs.Check.{HeaderTest, RowTest, fixed, ◌allowing◌, passes, entry, ◌to◌, ◌within◌, header_tests, header_rule, row_tests, field_rules, row_rules, not_above}
use Rattle.sheet.proofs.Rules.{rules-more, rules_fault, rules-end}
use Rattle.sheet.proofs.Narrow.{Narrow, narrow}
use Rattle.sheet.proofs.Units.{units-from, units-count}

-- within a list the default doesn't count
pub any_default : (xs : List ℕ) (k d e : ℕ) → k < length xs → get_or xs k d ≡ get_or xs k e
any_default [] k d e h = absurd (omega arith)
any_default (x ∷ xs) zero d e h = refl
any_default (x ∷ xs) (suc k) d e h = any_default xs k d e (omega arith)

-- ---- the header's fields from k on
abbrev pub field_at : ℕ → HeaderField
field_at k = get_or HEADER_FIELDS k Month

abbrev no_rule : Rule
no_rule = true ⇒ TooShort

rule_at : (ts : List HeaderTest) (k : ℕ) → k < length ts
    → get_or (map header_rule ts) k no_rule ≡ (not (passes (get_or (map (λ t. t.test.value) ts) k 0 within entry (map header_range ts) k)) ⇒ AtByte (get_or (map (λ t. t.place) ts) k 0))
rule_at [] k h = absurd (omega arith)
rule_at (t ∷ ts) zero h = refl
rule_at (t ∷ ts) (suc k) h = rule_at ts k (omega arith)

module _ (bytes : List ℕ) where
  abbrev pub header_from : ℕ → Outcome
  header_from k = first_refusal (drop k (map header_rule (header_tests (sheet_of bytes))))

  header-length : length (map header_rule (header_tests (sheet_of bytes))) ≡ 17
  unfolding header_tests
  header-length = refl

  module _ (k : ℕ) (h : k < 17) where
    value_at_field : header_field (sheet_of bytes) (field_at k) ≡ get_or (map (λ t. t.test.value) (header_tests (sheet_of bytes))) k 0
    unfolding header_tests
    value_at_field = sym (get_or-map (header_field (sheet_of bytes)) HEADER_FIELDS k Month) ∙ any_default (map (header_field (sheet_of bytes)) HEADER_FIELDS) k (header_field (sheet_of bytes) Month) 0 h

    place_at_field : header_offset (field_at k) ≡ get_or (map (λ t. t.place) (header_tests (sheet_of bytes))) k 0
    unfolding header_tests
    place_at_field = sym (get_or-map header_offset HEADER_FIELDS k Month) ∙ any_default (map header_offset HEADER_FIELDS) k (header_offset Month) 0 h

  module _ (x k : ℕ) (ranges : List Range) (r : ranges ≡ map header_range (header_tests (sheet_of bytes))) (e : x ≡ header_field (sheet_of bytes) (field_at k)) (h : k < 17) where
    header_rule_lem : get_or (map header_rule (header_tests (sheet_of bytes))) k no_rule ≡ (not (passes (x within entry ranges k)) ⇒ AtByte (header_offset (field_at k)))
    unfolding header_tests sheet_of
    header_rule_lem =
        rule_at (header_tests (sheet_of bytes)) k h
        ∙ ap₂ (λ (v p : ℕ). not (passes (v within entry (map header_range (header_tests (sheet_of bytes))) k)) ⇒ AtByte p) (sym (e ∙ value_at_field k h)) (sym (place_at_field k h))
        ∙ ap (λ (rs : List Range). not (passes (x within entry rs k)) ⇒ AtByte (header_offset (field_at k))) (sym r)

    pub header-more : passes (x within entry ranges k) ≡ true → header_from (k + 1) ≡ header_from k
    header-more t = rules-more (map header_rule (header_tests (sheet_of bytes))) k no_rule _ _ (omega (arith, header-length)) header_rule_lem (rw t)

    pub header_fault : passes (x within entry ranges k) ≡ false → header_from k ≡ Err (AtByte (header_offset (field_at k)))
    header_fault t = rules_fault (map header_rule (header_tests (sheet_of bytes))) k no_rule _ _ (omega (arith, header-length)) header_rule_lem (rw t)

  pub header-end : (k : ℕ) → 17 ≤ k → header_from k ≡ Ok tt
  header-end k h = rules-end (map header_rule (header_tests (sheet_of bytes))) k (omega (arith, header-length))

-- ---- a row's fields from k on, and the rules behind them
-- the field of a turn, and its fixed range
abbrev pub table_at : ℕ → RowField × Range
table_at k = get_or ROW_FIELDS k (Id, 0 to 0)

abbrev pub row_field_at : ℕ → RowField
row_field_at k = (table_at k).0

field_in_table : (k : ℕ) → row_field_at k ≡ get_or (map (λ p. p.0) ROW_FIELDS) k Id
field_in_table k = sym (get_or-map (λ (p : RowField × Range). p.0) ROW_FIELDS k (Id, 0 to 0))

pub range_in_table : (k : ℕ) → (table_at k).1 ≡ entry row_ranges k
unfolding row_tests
range_in_table k = sym (get_or-map (λ (p : RowField × Range). p.1) ROW_FIELDS k (Id, 0 to 0))

module _ (i : ℕ) (behind : List Rule) where
  abbrev fields_of : List RowTest → Outcome
  fields_of ts = first_refusal (field_rules i ts ++ behind)

  field-passes : (t : RowTest) (ts : List RowTest) → Narrow t → passes (value_of t within allowed t) ≡ true → fields_of ts ≡ fields_of (t ∷ ts)
  unfolding field_rules first_refusal
  field-passes (fixed t) ts n e = rw e
  field-passes (t allowing range) ts n e = rw (n e, e)

  -- by whether it is within its fixed range
  refused-by : (b : Bool) (t : RowTest) (ts : List RowTest) → passes (value_of t within fixed_range t) ≡ b → passes (value_of t within allowed t) ≡ false → fields_of (t ∷ ts) ≡ Err (refusal_by b i)
  unfolding field_rules first_refusal
  refused-by true (fixed t) ts f e = absurd (let z : ◌≡◌ {A = ℕ} 0 1 = cc in omega arith)
  refused-by false (fixed t) ts f e = rw e
  refused-by true (t allowing range) ts f e = rw (f, e)
  refused-by false (t allowing range) ts f e = rw f

  module _ (x : ℕ) where
    fields-more : (ts : List RowTest) (k : ℕ) → k < length ts → Each Narrow ts → x ≡ get_or (map value_of ts) k 0 → passes (x within entry (map allowed ts) k) ≡ true → fields_of (drop (suc k) ts) ≡ fields_of (drop k ts)
    fields-more [] k h n e p = absurd (omega arith)
    fields-more (t ∷ ts) zero h n e p = field-passes t ts n.0 (sym (ap (λ (x : ℕ). passes (x within allowed t)) e) ∙ p)
    fields-more (t ∷ ts) (suc k) h n e p = fields-more ts k (omega arith) n.1 e p

    fields_fault : (ts : List RowTest) (k : ℕ) → k < length ts → x ≡ get_or (map value_of ts) k 0 → passes (x within entry (map allowed ts) k) ≡ false
        → fields_of (drop k ts) ≡ Err (refusal_by (passes (x within entry (map fixed_range ts) k)) i)
    fields_fault [] k h e p = absurd (omega arith)
    fields_fault (t ∷ ts) zero h e p = refused-by _ t ts (sym (ap (λ (x : ℕ). passes (x within fixed_range t)) e)) (sym (ap (λ (x : ℕ). passes (x within allowed t)) e) ∙ p)
    fields_fault (t ∷ ts) (suc k) h e p = fields_fault ts k (omega arith) e p

-- ---- the rows from i on
abbrev pub rows_from : List ℕ → ℕ → Outcome
rows_from bytes i = first_refusal (row_rules (sheet_of bytes) i (id_before (sheet_of bytes) i) (drop i (sheet_of bytes).units))

module _ (bytes : List ℕ) (i : ℕ) where
  abbrev tests_of : List RowTest
  tests_of = row_tests (sheet_of bytes) (unit_of (sheet_of bytes) i)

  abbrev pub out_of_order : Bool
  out_of_order = not_above (unit_of (sheet_of bytes) i).id (id_before (sheet_of bytes) i)

  abbrev behind_row : List Rule
  behind_row = (out_of_order ⇒ IdOrder i) ∷ row_rules (sheet_of bytes) (i + 1) (some (unit_of (sheet_of bytes) i).id) (drop (i + 1) (sheet_of bytes).units)

  -- from field k of row i on
  abbrev pub fields_from : ℕ → Outcome
  fields_from k = fields_of i behind_row (drop k tests_of)

  ten : length tests_of ≡ 10
  unfolding row_tests
  ten = refl

  value-at : (k : ℕ) → k < 10 → row_field (unit_of (sheet_of bytes) i) (row_field_at k) ≡ get_or (map value_of tests_of) k 0
  unfolding row_tests
  value-at k h =
      let u = unit_of (sheet_of bytes) i in
      let fields = map (λ (p : RowField × Range). p.0) ROW_FIELDS in
      ap (row_field u) (field_in_table k) ∙ sym (get_or-map (row_field u) fields k Id) ∙ any_default (map (row_field u) fields) k (row_field u Id) 0 h

  fixed-at : map fixed_range tests_of ≡ row_ranges
  unfolding row_tests
  fixed-at = refl

  module _ (x k : ℕ) (ranges : List Range) (r : ranges ≡ map allowed tests_of) (e : x ≡ row_field (unit_of (sheet_of bytes) i) (row_field_at k)) (h : k < 10) where
    pub field-more : passes (x within entry ranges k) ≡ true → fields_from (k + 1) ≡ fields_from k
    field-more p =
        ap fields_from (add-one k)
        ∙ fields-more i behind_row x tests_of k (omega (arith, ten)) (narrow (sheet_of bytes) (unit_of (sheet_of bytes) i)) (e ∙ value-at k h) (sym (ap (λ (rs : List Range). passes (x within entry rs k)) r) ∙ p)

    pub field_fault : passes (x within entry ranges k) ≡ false → fields_from k ≡ Err (refusal_by (passes (x within entry row_ranges k)) i)
    field_fault p =
        fields_fault i behind_row x tests_of k (omega (arith, ten)) (e ∙ value-at k h) (sym (ap (λ (rs : List Range). passes (x within entry rs k)) r) ∙ p)
        ∙ ap (λ (rs : List Range). Err (refusal_by (passes (x within entry rs k)) i)) fixed-at

  fields-end : (k : ℕ) → 10 ≤ k → fields_from k ≡ first_refusal behind_row
  unfolding field_rules
  fields-end k h = ap (fields_of i behind_row) (drop_of_length-le tests_of {i = k} (omega (arith, ten)))

  module _ (h : i < (sheet_of bytes).unit_count) where
    pub row_opens : rows_from bytes i ≡ fields_from 0
    unfolding row_rules
    row_opens = ap (λ (us : List UnitRow). first_refusal (row_rules (sheet_of bytes) i (id_before (sheet_of bytes) i) us)) (units-from bytes i h)

    module _ (k : ℕ) (last : 10 ≤ k) where
      pub order_fault : out_of_order ≡ true → fields_from k ≡ Err (IdOrder i)
      unfolding first_refusal
      order_fault e = fields-end k last ∙ rw e

      pub rows_more : out_of_order ≡ false → rows_from bytes (i + 1) ≡ fields_from k
      unfolding first_refusal
      rows_more e =
          ap (λ (before : Option ℕ). first_refusal (row_rules (sheet_of bytes) (i + 1) before (drop (i + 1) (sheet_of bytes).units))) (ap (id_before (sheet_of bytes)) (add-one i))
          ∙ sym (fields-end k last ∙ rw e)

  pub rows_end : (sheet_of bytes).unit_count ≤ i → rows_from bytes i ≡ Ok tt
  unfolding first_refusal row_rules
  rows_end h =
      let l : length (sheet_of bytes).units ≤ i = omega (arith, units-count bytes) in
      ap (λ (us : List UnitRow). first_refusal (row_rules (sheet_of bytes) i (id_before (sheet_of bytes) i) us)) (drop_of_length-le (sheet_of bytes).units l)

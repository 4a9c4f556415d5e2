-- Writer and reader (specs/Theorems.antt) at the records of case A (document 01, "Printing", "Cases for the proofs") of each archive version: all that they ask can be
-- met. Assumes nothing.
use mathlib.Core.Path.{◌≡◌, refl, sym, ap, ◌∙◌}
use mathlib.Core.List.{List}
use Prim.Native.Nat.{ℕ}
use native.Mathlib.Omega.{arith}
use Rattle.apportion.specs.Shares.{shares_by}
use Rattle.sheet.specs.declared.refusal.Refusal.TheVariants.{BadArchive}
use Rattle.std.specs.Prelude.{Ok, Err}
use Rattle.sheet.specs.Tests.{all, any}
use Rattle.sheet.specs.Refusals.{first_refusal}
use Rattle.sheet.specs.declared.rule_set.RuleSet.{RuleSet}
use Rattle.sheet.specs.declared.rule_set.RuleSet.TheVariants.{Archive1, Archive2, Archive3}
use Rattle.sheet.specs.RuleSets.{archive_version}
use Rattle.sheet.specs.Layout.{unit_row, rows, sheet_of, in_bytes}
use Rattle.sheet.specs.Check.{header_tests, row_tests, field_rules, row_rules, sheet_rules}
use Rattle.sheet.specs.Cases.Samples.{put, unit_bytes, joined, sheet_bytes, case_a}
use Rattle.month.specs.Weights.{all_metered, metered_sum, has_pool, total_area, unread_weight, unread_weights, pool_weight, reading_sum, read_area, read_surface, area_weight, surface_weight, read_weight, read_weights, units_of_class, litres_of_class1, persons_of_class2, water_weight}
use Rattle.month.specs.Steps.{split_by, in_unit_order, unit_by_unit, hot_water, space_heat, heat_parts, pool_shares, read_shares, heat, common_heat, water_parts, water, common_water, energies}
use Rattle.month.specs.Month.{hot_water_wh, space_heat_wh, zero_water_divisor, zero_divisor, month_rules, bill_cents, costs, four_and_four, statement_of, Month, month_of, settled, settle_rules, settled_sheet}
use Rattle.month.specs.Cases.Months.{month_a}
use Rattle.archive.specs.Record.{archive_record}
use Rattle.archive.specs.Reader.{head_among, body_rules, read_rules, read_outcome}
use Rattle.archive.specs.Theorems.{RightHead, sheet_inside, HoldsItsSettlement, AcceptedExactly, ReadBack}
use Rattle.archive.specs.Cases.Records.{statement_a, record_a}
use Rattle.archive.proofs.RoundTrip.{reader_accepts_exactly, written-is_read-back, one-record_a-sheet}

-- a byte of the statement is another
damaged : (archive : ℕ) → List ℕ
damaged archive = put 152 33 (record_a archive)

-- ---- what is computed
record Computed (rules : RuleSet) : Type 0 where
  head : RightHead rules (record_a (archive_version rules))
  settles : settled_sheet rules case_a ≡ settled month_a
  inside : sheet_inside (record_a (archive_version rules)) ≡ case_a
  holds : HoldsItsSettlement rules (record_a (archive_version rules))
  damaged-head : RightHead rules (damaged (archive_version rules))
  refuses : read_outcome (damaged (archive_version rules)) ≡ Err BadArchive

computed : (rules : RuleSet) → Computed rules
unfolding month_a damaged statement_a record_a
    unit_bytes joined sheet_bytes in_bytes archive_record head_among body_rules read_rules read_outcome
    shares_by all any first_refusal unit_row rows sheet_of header_tests row_tests field_rules row_rules sheet_rules
    all_metered metered_sum has_pool total_area unread_weight unread_weights pool_weight reading_sum read_area read_surface area_weight surface_weight read_weight read_weights units_of_class litres_of_class1 persons_of_class2 water_weight
    split_by in_unit_order unit_by_unit hot_water space_heat heat_parts pool_shares read_shares heat common_heat water_parts water common_water energies
    hot_water_wh space_heat_wh zero_water_divisor zero_divisor month_rules bill_cents costs four_and_four statement_of month_of settle_rules settled_sheet
computed Archive1 = record {
  head = refl;
  settles = refl;
  inside = refl;
  holds = record { month = month_a; settles = refl; statement = refl };
  damaged-head = refl;
  refuses = refl;
}
computed Archive2 = record {
  head = refl;
  settles = refl;
  inside = refl;
  holds = record { month = month_a; settles = refl; statement = refl };
  damaged-head = refl;
  refuses = refl;
}
computed Archive3 = record {
  head = refl;
  settles = refl;
  inside = refl;
  holds = record { month = month_a; settles = refl; statement = refl };
  damaged-head = refl;
  refuses = refl;
}

module _ (rules : RuleSet) where
  abbrev c : Computed rules
  c = computed rules

  abbrev written : List ℕ
  written = record_a (archive_version rules)

  -- ---- the reader accepts exactly what holds its settlement
  exactly : AcceptedExactly rules written
  exactly = reader_accepts_exactly rules written c.head

  accepts : read_outcome written ≡ Ok tt
  accepts = exactly.if c.holds

  -- what it then says is held is the month of case A
  month-held : (exactly.only_if_lem accepts).month ≡ month_a
  month-held = cc ((exactly.only_if_lem accepts).settles, c.settles, c.inside)

  bill-held : (exactly.only_if_lem accepts).month.bill ≡ 10000
  unfolding month_a
  bill-held = ap (λ (m : Month). m.bill) month-held

  damaged-holds-not : HoldsItsSettlement rules (damaged (archive_version rules)) → ⊥
  damaged-holds-not h = absurd (let z : ◌≡◌ {A = ℕ} 0 1 = cc ((reader_accepts_exactly rules (damaged (archive_version rules)) c.damaged-head).if h, c.refuses) in omega arith)

  -- ---- what the writer writes is read back; it is the record
  back : ReadBack rules case_a month_a
  back = written-is_read-back rules case_a month_a c.settles

  one_record : written ≡ archive_record rules case_a month_a.numbers
  unfolding archive_record
  one_record = one-record_a-sheet rules written (archive_record rules case_a month_a.numbers) c.head refl accepts back.accepted (c.inside ∙ sym back.same-sheet)

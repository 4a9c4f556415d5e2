-- Demand 3 at the computed run (specs/Cases/Runs.antt), on lists of 15,557 and 1,280 sevens: all that it asks can be met, and what it says holds in literal numbers. Assumes nothing.
use mathlib.Core.Path.{◌≡◌, refl, ap, sym, ◌∙◌}
use mathlib.Core.List.{List, [], ◌∷◌, map}
use Prim.Native.Nat.{ℕ, ◌+◌}
use native.Mathlib.Omega.{arith}
use lib.ListN.{get_or, take, replicate, length-replicate}
use Rattle.apportion.specs.Shares.{shares_by}
use Rattle.sheet.specs.Tests.{all, any}
use Rattle.sheet.specs.Refusals.{first_refusal}
use Rattle.std.specs.Prelude.{Ok}
use Rattle.sheet.specs.RuleSets.{newest}
use Rattle.sheet.specs.Layout.{in_bytes, unit_row, rows, sheet_of}
use Rattle.sheet.specs.Check.{header_tests, row_tests, field_rules, row_rules, sheet_rules, checked}
use Rattle.sheet.specs.Chains.{Step, replies, after_all}
use Rattle.sheet.proofs.Chains.{made}
use Rattle.sheet.specs.Cases.Samples.{unit_bytes, joined, sheet_bytes}
use Rattle.month.specs.Weights.{all_metered, metered_sum, has_pool, total_area, unread_weight, unread_weights, pool_weight, reading_sum, read_area, read_surface, area_weight, surface_weight, read_weight, read_weights, units_of_class, litres_of_class1, persons_of_class2, water_weight}
use Rattle.month.specs.Steps.{split_by, in_unit_order, unit_by_unit, hot_water, space_heat, heat_parts, pool_shares, read_shares, heat, common_heat, water_parts, water, common_water, energies}
use Rattle.month.specs.Fraction.{Near, ◌over◌, ◌+ᶠ◌, ◌-ᶠ◌, sumᶠ, portion, portions}
use Rattle.month.specs.Portions.{energy_portion, bill_part}
use Rattle.month.specs.Laws.{sum_to}
use Rattle.month.specs.Month.{hot_water_wh, space_heat_wh, zero_water_divisor, zero_divisor, month_rules, bill_cents, costs, four_and_four, statement_of, month_of, settled, settle_rules, settled_sheet}
use Rattle.yearbook.specs.Calls.{Call, post, replace, withdraw, year, Reply, accepted, totals}
use Rattle.yearbook.specs.PlainBook.{PlainBook, opened_plain, standing, stands, sheets_of, now_holds, not_kept, brought, withdrawn, number_in, unit_sums, told, called}
use Rattle.yearbook.specs.LentBook.{Lent, lent, open_answer, opened, lent_reply, lent_after, Answered}
use Rattle.yearbook.specs.Matches.{Matches}
use Rattle.yearbook.specs.Theorem.{YearBook}
use Rattle.yearbook.specs.Cases.Runs.{by_area, by_risers, overcharged, one_unit, other_id, answer_of, call_of, expected, run, run-right}
use Rattle.yearbook.specs.Cases.Written.{january, december, january_numbers, december_settled, of_month1, numbers, Left}
use Rattle.yearbook.proofs.EveryList.{every_list_of_calls}
use Rattle.yearbook.proofs.Written.{lent-lists}

-- ---- a call on the lent lists
abbrev lent_step : Lent → Call → Step Lent Reply
lent_step l c = record { reply = lent_reply l c; after = lent_after l c }

-- ---- the run
sevens : Lent
sevens = lent (replicate 15557 7) (replicate 1280 7)

opening : List ℕ
opening = overcharged 6

start : Lent
start = opened sevens opening

calls : List Call
calls = map call_of run

last : Lent
last = after_all lent_step start calls

passes : checked 32 opening ≡ Ok tt
unfolding opening overcharged unit_bytes joined sheet_bytes in_bytes first_refusal unit_row rows sheet_of header_tests row_tests field_rules row_rules sheet_rules checked
passes = refl

at-calls : (cs : List Call) → YearBook opening (open_answer sevens opening) cs (replies lent_step start cs) (after_all lent_step start cs)
unfolding sevens start
at-calls cs =
    every_list_of_calls sevens start (after_all lent_step start cs) opening (open_answer sevens opening) cs (replies lent_step start cs)
    (length-replicate {A = ℕ} 15557 7) (length-replicate {A = ℕ} 1280 7) passes (record { answer = refl; after = refl }) (made Answered lent_step (λ l c. record { reply = refl; after = refl }) start cs)

at-run : YearBook opening (open_answer sevens opening) calls (replies lent_step start calls) last
unfolding last
at-run = at-calls calls

-- ---- what it says
abbrev plain : PlainBook
plain = after_all called (opened_plain opening) calls

-- the calls of specs/Cases/Written.antt in an order in which each is accepted
six : List Call
six = post january ∷ replace january ∷ post december ∷ replace december ∷ withdraw 1 ∷ withdraw 12 ∷ []

record Said : Type 0 where
  opens : open_answer sevens opening ≡ Ok tt
  answers : map answer_of (replies lent_step start calls) ≡ map expected run
  -- the months that stand, and the year calls of both units: 1,050 Wh and 11 cents
  stand : standing plain ≡ january ∷ december ∷ []
  first : lent_reply last (year 0) ≡ totals 2 (262 ∷ 0 ∷ 0 ∷ 0 ∷ 2 ∷ 0 ∷ 0 ∷ 0 ∷ [])
  second : lent_reply last (year 1) ≡ totals 2 (788 ∷ 0 ∷ 0 ∷ 0 ∷ 9 ∷ 0 ∷ 0 ∷ 0 ∷ [])
  settles : settled_sheet newest december ≡ settled december_settled
  energies : sum_to 2 (λ u. sum_to 4 (λ j. get_or (unit_sums plain u) j 0)) ≡ 1050
  cents : sum_to 2 (λ u. sum_to 4 (λ j. get_or (unit_sums plain u) (4 + j) 0)) ≡ 11
  -- the second unit's first energy by 750 + 37.5, its first cents by 7.5 + 0.76
  energy : Near 788 (1260000000000 over 1600000000) 8
  cent : Near 9 (413000 over 50000) 2
  -- a month of model 4, its first unit at the upper limit, 4,200 × 300 / 420 Wh
  by_risers_lem : Near 3000 (504000000000000000000 over 168000000000000000) 4
  matches : Matches last
  -- the lent lists of the 20th call, withdraw 1, and of the last, where january stands again
  cleared : Left (after_all lent_step start (take 19 calls)) (after_all lent_step start (take 20 calls)) (withdraw 1) (numbers 0 0 0 []) of_month1
  written : Left (after_all lent_step start (take 24 calls)) last (post january) (numbers 1 1000 10 january_numbers) of_month1
  each-accepted : replies lent_step start six ≡ accepted ∷ accepted ∷ accepted ∷ accepted ∷ accepted ∷ accepted ∷ []

at_run_said : Said
unfolding calls six opening last lent_after replies after_all run by_area by_risers overcharged one_unit other_id unit_bytes joined sheet_bytes in_bytes
    opened_plain stands sheets_of now_holds not_kept brought withdrawn number_in unit_sums told called
    shares_by all any first_refusal unit_row rows sheet_of header_tests row_tests field_rules row_rules sheet_rules
    all_metered metered_sum has_pool total_area unread_weight unread_weights pool_weight reading_sum read_area read_surface area_weight surface_weight read_weight read_weights units_of_class litres_of_class1 persons_of_class2 water_weight
    split_by in_unit_order unit_by_unit hot_water space_heat heat_parts pool_shares read_shares heat common_heat water_parts water common_water energies
    hot_water_wh space_heat_wh zero_water_divisor zero_divisor month_rules bill_cents costs four_and_four statement_of month_of settle_rules settled_sheet
    ◌+ᶠ◌ ◌-ᶠ◌ sumᶠ portion portions energy_portion bill_part sum_to
at_run_said =
    let k = at-run.kept in
    record {
      opens = at-run.opens;
      answers = ap (map answer_of) at-run.same-replies ∙ run-right;
      stand = refl;
      first = sym (k.year-calls 0 (omega arith)).reply;
      second = sym (k.year-calls 1 (omega arith)).reply;
      settles = k.settled-months.1.0;
      energies = k.energies_add;
      cents = k.cents_add;
      energy = k.energy_near 1 0 (omega arith) (omega arith);
      cent = k.cents_near 1 0 (omega arith) (omega arith);
      by_risers_lem = (at-calls (post (by_risers 3 4200) ∷ [])).kept.energy_near 0 0 (omega arith) (omega arith);
      matches = k.matches;
      cleared = lent-lists.called.1.0.0 _ (ap (λ (l : List Reply). get_or l 19 accepted) at-run.same-replies);
      written = lent-lists.called.0.0 _ (ap (λ (l : List Reply). get_or l 24 accepted) at-run.same-replies);
      each-accepted = (at-calls six).same-replies;
    }

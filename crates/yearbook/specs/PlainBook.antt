-- The plain year book (document 01, "Year book"): fed the opening sheet, then each call's own arguments, and never the lent list.
use Rattle.std.specs.Prelude.{Bool, true, false, not, ◌||◌, List, [], ◌∷◌, map, ℕ, ◌+◌, ◌*◌, ◌-◌, ltb, eqb, length, get_or, set, replicate, if◌then◌else◌}
use Rattle.std.proofs.Math.Option.{Option, none, some}
use Rattle.apportion.specs.Shares.{sum}
use Rattle.sheet.specs.declared.refusal.Refusal.{Refusal}
use Rattle.sheet.specs.declared.refusal.Refusal.TheVariants.{OtherBuilding, MonthState, NoSuchUnit}
use Rattle.sheet.specs.RuleSets.{newest}
use Rattle.sheet.specs.Layout.{sheet_of}
use Rattle.sheet.specs.Chains.{Step}
use Rattle.sheet.specs.Check.{◌to◌, ◌within◌, passes, same_list}
use Rattle.month.specs.Month.{Month, Settled, settled_sheet, statement_of}
use Rattle.yearbook.specs.Calls.{Call, post, replace, withdraw, year, Reply, accepted, refused, totals, eight}

-- It keeps the opening sheet's n and ids, and for each month a sheet or nothing.
pub record PlainBook : Type 0 where
  pub unit_count : ℕ  -- n
  pub ids : List ℕ
  pub months : List (Option (List ℕ))  -- the bytes of the sheets of months 1 to 12

-- After the opening all twelve hold nothing.
unfoldable pub opened_plain : List ℕ → PlainBook
opened_plain opening =
    let s = sheet_of opening in
    record { unit_count = s.unit_count; ids = map (λ u. u.id) s.units; months = replicate 12 none }

-- A month, 1 to 12, with a sheet stands.
abbrev pub has_sheet : Option (List ℕ) → Bool
has_sheet none = false
has_sheet (some sheet) = true

unfoldable pub stands : PlainBook → ℕ → Bool
stands p month = has_sheet (get_or p.months (month - 1) none)

-- the sheets of the standing months
unfoldable pub sheets_of : List (Option (List ℕ)) → List (List ℕ)
sheets_of [] = []
sheets_of (none ∷ months) = sheets_of months
sheets_of (some sheet ∷ months) = sheet ∷ sheets_of months

abbrev pub standing : PlainBook → List (List ℕ)
standing p = sheets_of p.months

-- ---- a call: its reply, and the book afterwards
-- the month now holds a sheet or nothing
unfoldable pub now_holds : PlainBook → ℕ → Option (List ℕ) → Step PlainBook Reply
now_holds p month held = record {
  reply = accepted;
  after = record { unit_count = p.unit_count; ids = p.ids; months = set p.months (month - 1) held };
}

-- The year call and every refused call change nothing.
abbrev pub refuse : PlainBook → Refusal → Step PlainBook Reply
refuse p r = record { reply = refused r; after = p }

abbrev pub tell : PlainBook → ℕ → List ℕ → Step PlainBook Reply
tell p k sums = record { reply = totals k sums; after = p }

-- a sheet's n or ids aren't the kept ones
unfoldable pub not_kept : PlainBook → Month → Bool
not_kept p m = not (eqb m.unit_count p.unit_count) || not (same_list m.ids p.ids)

-- Post and replace bring a sheet and settle it by the newest rules. They are refused by 1 to 12,
-- by 16 when its n or ids aren't the kept ones, and by 17 when its month stands (post) or doesn't (replace); otherwise its month now holds that sheet.
unfoldable pub brought : PlainBook → (sheet : List ℕ) → (wrong_month : ℕ → Bool) → Settled → Step PlainBook Reply
brought p sheet wrong_month (Settled.refused r) = refuse p r
brought p sheet wrong_month (Settled.settled m) =
    if not_kept p m then refuse p OtherBuilding
    else if wrong_month m.month then refuse p MonthState
    else now_holds p m.month (some sheet)

-- Withdraw brings a month and is refused by 17 when that isn't 1–12 or doesn't stand; otherwise the month holds nothing.
unfoldable pub withdrawn : PlainBook → ℕ → Step PlainBook Reply
withdrawn p month =
    if not (passes (month within 1 to 12)) || not (stands p month) then refuse p MonthState
    else now_holds p month none

-- number j of the unit at a place in the statement that a sheet settles to by the newest rules
unfoldable pub number_in : ℕ → ℕ → List ℕ → ℕ
number_in place j sheet = get_or (statement_of newest (sheet_of sheet)) (8 * place + j) 0

-- the eight sums of that unit's numbers in the statements of the standing months
unfoldable pub unit_sums : PlainBook → ℕ → List ℕ
unit_sums p place = map (λ j. sum (map (number_in place j) (standing p))) eight

-- The year call brings a place, is refused by 18 when that isn't below n, and otherwise gives k, the number of standing months, and the eight sums.
unfoldable pub told : PlainBook → ℕ → Step PlainBook Reply
told p place =
    if not (ltb place p.unit_count) then refuse p NoSuchUnit
    else tell p (length (standing p)) (unit_sums p place)

unfoldable pub called : PlainBook → Call → Step PlainBook Reply
called p (post sheet) = brought p sheet (λ month. stands p month) (settled_sheet newest sheet)
called p (replace sheet) = brought p sheet (λ month. not (stands p month)) (settled_sheet newest sheet)
called p (withdraw month) = withdrawn p month
called p (year place) = told p place

use borrow.Author.Tests.{not-false}
use lib.ListN.{take}
use lib.Pointwise.{pointwise}
use lib.Dec.{eqb}
use mathlib.Core.Bool.{Bool, true, false, not}
use mathlib.Core.Path.{◌≡◌, sym, ap, ◌∙◌, refl}
use mathlib.Core.List.{List, map}
use Prim.Native.Nat.{ℕ, ◌+◌, ◌*◌, ◌≤◌}
use native.Mathlib.Nat.{mul-le-mul_right}
use native.Mathlib.Omega.{arith}
use Rattle.std.specs.Prelude.{Ok}
use Rattle.sheet.specs.Refusals.{first_refusal}
use Rattle.sheet.specs.Layout.{sheet_of}
use Rattle.sheet.specs.Check.{header_tests, header_rule, same_list, sheet_magic}
use Rattle.sheet.proofs.Passed.{none-holds, same_pointwise}
use Rattle.sheet.proofs.Fits.{header-fits}
use Rattle.sheet.proofs.Verdict.{too_short, bad-magic, bad-version, bad-header, bad-length, by_rows}
use Rattle.sheet.proofs.Rules.{handed_on}
use Rattle.sheet.proofs.check.check.Goals as goal

-- a sheet with a good header has 160 units at most
count-high : (bytes : List ℕ) (n : ℕ) → n ≡ (sheet_of bytes).unit_count → (sheet_of bytes).version ≡ 1
    → first_refusal (map header_rule (header_tests (sheet_of bytes))) ≡ Ok tt → n ≤ 160
count-high bytes n e v h = omega (arith, (header-fits (sheet_of bytes) v (none-holds _ h)).unit_count)

opposite : (t : Bool) → not t ≡ true → t ≡ false
opposite true e = sym e
opposite false e = refl

magic_is : (bytes : List ℕ) → not (pointwise eqb (take 4 bytes) sheet_magic) ≡ false → same_list (take 4 bytes) sheet_magic ≡ true
magic_is bytes e = sym (same_pointwise (take 4 bytes) sheet_magic) ∙ not-false _ e

-- ---- 1 to 5, and the rows
pub returns-then-s-lt48 : goal.returns-then-s-lt48
returns-then-s-lt48 c = sym (too_short c.args.width c.args.s.now (omega arith))

pub returns-then-ne : goal.returns-then-ne
unfolding sheet_of
returns-then-ne c =
    let e : same_list (take 4 c.args.s.now) sheet_magic ≡ false = sym (same_pointwise (take 4 c.args.s.now) sheet_magic) ∙ opposite _ (sym c.ne.ensures ∙ c.if-ne.true) in
    sym (bad-magic c.args.width c.args.s.now (omega arith) e)

pub returns-then-read16-ne1 : goal.returns-then-read16-ne1
unfolding sheet_of
returns-then-read16-ne1 c =
    sym (bad-version c.args.width c.args.s.now (omega arith) (magic_is c.args.s.now (sym c.ne.ensures ∙ c.if-ne.false)) (λ e. c.if-read16-ne1.true (c.read16.ensures ∙ e)))

pub returns-in_err-check_header : goal.returns-in_err-check_header
unfolding sheet_of
returns-in_err-check_header c =
    handed_on c.from_residual.result c.check_header.result c.in_err-check_header.field-0.0 c.from_residual.ensures.1 c.in_err-check_header.was
    ∙ c.in_err-check_header.was ∙ sym (bad-header c.args.width c.args.s.now (omega arith) (magic_is c.args.s.now (sym c.ne.ensures ∙ c.if-ne.false)) (sym c.read16.ensures ∙ c.if-read16-ne1.false) (sym c.check_header.ensures ∙ c.in_err-check_header.was))

pub overflow_mul-width : goal.overflow_mul-width
unfolding sheet_of
overflow_mul-width c =
    let high = count-high c.args.s.now _ c.header_field-n.ensures (sym c.read16.ensures ∙ c.if-read16-ne1.false) (sym c.check_header.ensures ∙ c.in_ok-check_header.was) in
    omega (arith, mul-le-mul_right {m = c.args.width} {n = 64} c.header_field-n.result (omega arith))

pub overflow_add-width : goal.overflow_add-width
unfolding sheet_of
overflow_add-width c =
    let high = count-high c.args.s.now _ c.header_field-n.ensures (sym c.read16.ensures ∙ c.if-read16-ne1.false) (sym c.check_header.ensures ∙ c.in_ok-check_header.was) in
    omega (arith, mul-le-mul_right {m = c.args.width} {n = 64} c.header_field-n.result (omega arith))

pub returns-then-s-width : goal.returns-then-s-width
unfolding sheet_of
returns-then-s-width c =
    let w = c.args.width in
    sym (
    bad-length w c.args.s.now (omega arith) (magic_is c.args.s.now (sym c.ne.ensures ∙ c.if-ne.false)) (sym c.read16.ensures ∙ c.if-read16-ne1.false) (sym c.check_header.ensures ∙ c.in_ok-check_header.was)
    (λ e. c.if-s-width.true (e ∙ ap (λ (n : ℕ). 48 + w * n) (sym c.header_field-n.ensures)))
    )

pub check_rows-requires : goal.check_rows-requires
unfolding sheet_of
check_rows-requires c = (
  c.header_field-n.ensures,
  (
    count-high c.args.s.now _ c.header_field-n.ensures (sym c.read16.ensures ∙ c.if-read16-ne1.false) (sym c.check_header.ensures ∙ c.in_ok-check_header.was),
    omega (arith, mul-le-mul_right {m = 32} {n = c.args.width} c.header_field-n.result (omega arith)),
  ),
)

pub returns : goal.returns
unfolding sheet_of
returns c =
    let w = c.args.width in
    c.check_rows.ensures
    ∙ sym (
    by_rows w c.args.s.now (omega arith) (magic_is c.args.s.now (sym c.ne.ensures ∙ c.if-ne.false)) (sym c.read16.ensures ∙ c.if-read16-ne1.false) (sym c.check_header.ensures ∙ c.in_ok-check_header.was)
    (c.if-s-width.false ∙ ap (λ (n : ℕ). 48 + w * n) c.header_field-n.ensures)
    )

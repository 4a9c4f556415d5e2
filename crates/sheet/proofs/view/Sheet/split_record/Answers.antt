-- The sheet at the front fits by itself.
use mathlib.Core.Path.{◌≡◌, sym, ap, ◌∙◌}
use Prim.Native.Nat.{ℕ, ◌+◌, ◌*◌}
use native.Mathlib.Omega.{arith}
use lib.ListN.{take}
use Rattle.std.specs.Prelude.{Ok}
use Rattle.sheet.specs.Layout.{sheet_of}
use Rattle.sheet.specs.Check.{checked}
use Rattle.sheet.proofs.Fits.{fits}
use Rattle.sheet.proofs.Inside.{all-length, inside-checked}
use Rattle.sheet.proofs.view.Sheet.split_record.Goals as goal

pub header_field-requires : goal.header_field-requires
header_field-requires c = omega (arith, all-length c.args.body.now (sym c.check.ensures ∙ c.in_ok-check.was))

pub split_at-requires : goal.split_at-requires
split_at-requires c = omega (arith, c.header_field.ensures, all-length c.args.body.now (sym c.check.ensures ∙ c.in_ok-check.was))

pub invariant_of-result : goal.invariant_of-result
invariant_of-result c =
    let body = c.args.body.now in
    let front : c.split_at.result.0.now ≡ take (48 + 32 * (sheet_of body).unit_count) body = c.split_at.ensures.front ∙ ap (λ (n : ℕ). take (48 + 32 * n) body) c.header_field.ensures in
    let passed : checked 32 c.split_at.result.0.now ≡ Ok tt = ap (checked 32) front ∙ inside-checked body (sym c.check.ensures ∙ c.in_ok-check.was) in
    record { fits = fits 32 _ passed }

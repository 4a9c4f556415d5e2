-- 8 to 12, else the month.
use lib.ListN.{length, get_or, take}
use lib.Seq.{length-take-le}
use mathlib.Core.Path.{◌≡◌, sym, ap, ◌∙◌}
use mathlib.Core.List.{List}
use Prim.Native.Nat.{ℕ, ◌*◌, ◌≤◌}
use native.Mathlib.Omega.{arith}
use Rattle.std.proofs.Common.{rules, Fits, w32}
use Rattle.sheet.proofs.Rules.{handed}
use Rattle.sheet.proofs.Views.{accepted}
use Rattle.printing.specs.Inner.Outcomes.{settled_in}
use Rattle.printing.proofs.Answers.{refused-month, settled-month, statement}
use Rattle.printing.proofs.Lines.{month_short}
use Rattle.printing.proofs.settled.SettledMonth.settle.Goals as goal

-- the first 8n places of the array, lent
lent : (room : List ℕ) {k n : ℕ} → length room ≡ 1280 → k ≡ n → k ≤ 160 → length (take (8 * k) room) ≡ 8 * n
lent room {k} long e h = length-take-le (8 * k) room (omega arith) ∙ ap (λ (n : ℕ). 8 * n) e

pub returns-in_err-settle_checked : goal.returns-in_err-settle_checked
returns-in_err-settle_checked c =
    let r = c.from_residual in
    let room = lent c.args.room.now c.told-room c.unit_count.ensures.0 (omega (arith, c.unit_count.ensures)) in
    ap settled_in (handed r.result c.in_err-settle_checked.field-0.0 r.ensures.1)
    ∙ sym (refused-month c.args.sheet.bytes.now _ (accepted _ c.requires.passed) room _ (sym c.in_err-settle_checked.ensures.value))

pub invariant_of-result : goal.invariant_of-result
invariant_of-result c =
    let s = c.args.sheet in
    let o = c.settle_checked in
    let room = lent c.args.room.now c.told-room c.unit_count.ensures.0 (omega (arith, c.unit_count.ensures)) in
    let is = statement s.bytes.now _ (accepted _ c.requires.passed) room (sym c.in_ok-settle_checked.ensures.value) o.ensures.statement_after in
    let fits : (k : ℕ) → Fits w32 (get_or o.new.statement k 0) = search rules in
    record { is = is; numbers = omega (arith, o.auto, room); short = month_short s.bytes.now o.new.statement s.fits c.requires.bytes (λ k. omega (arith, fits k)) is }

pub returns : goal.returns
returns c =
    let room = lent c.args.room.now c.told-room c.unit_count.ensures.0 (omega (arith, c.unit_count.ensures)) in
    sym (settled-month c.args.sheet.bytes.now _ (accepted _ c.requires.passed) room (sym c.in_ok-settle_checked.ensures.value))

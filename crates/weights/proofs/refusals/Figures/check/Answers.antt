-- The first test that holds decides: the tests before it, one after the other, do not.
use mathlib.Core.Path.{◌≡◌, sym, ◌∙◌}
use mathlib.Core.Bool.{false}
use native.Mathlib.Omega.{arith}
use borrow.Author.Tests.{lt-ltb, le-ltb}
use lib.Dec.{ltb}
use Rattle.sheet.specs.Refusals.{first_refusal}
use Rattle.sheet.specs.Layout.{sheet_of}
use Rattle.month.specs.Month.{hot_water_wh, month_rules}
use Rattle.weights.proofs.refusals.Figures.check.Goals as goal

pub returns-then-from-self : goal.returns-then-from-self
unfolding first_refusal month_rules
returns-then-from-self c =
    let s = sheet_of c.args.self.now.basis.sheet.bytes.now in
    rw (lt-ltb s.shared_meter (hot_water_wh s) (omega (arith, c.from.ensures, c.header.ensures, c.args.self.now.water_is)))

pub returns-then-zero_divisor : goal.returns-then-zero_divisor
unfolding first_refusal month_rules
returns-then-zero_divisor c =
    let s = sheet_of c.args.self.now.basis.sheet.bytes.now in
    let e : ltb s.shared_meter (hot_water_wh s) ≡ false = le-ltb s.shared_meter (hot_water_wh s) (omega (arith, c.from.ensures, c.header.ensures, c.args.self.now.water_is)) in
    rw (e, sym c.zero_divisor.ensures ∙ c.if-zero_divisor.true)

pub returns-then-no_readings : goal.returns-then-no_readings
unfolding first_refusal month_rules
returns-then-no_readings c =
    let s = sheet_of c.args.self.now.basis.sheet.bytes.now in
    let e : ltb s.shared_meter (hot_water_wh s) ≡ false = le-ltb s.shared_meter (hot_water_wh s) (omega (arith, c.from.ensures, c.header.ensures, c.args.self.now.water_is)) in
    rw (e, sym c.zero_divisor.ensures ∙ c.if-zero_divisor.false, sym c.no_readings.ensures ∙ c.if-no_readings.true)

pub returns-then-meters_exceed : goal.returns-then-meters_exceed
unfolding first_refusal month_rules
returns-then-meters_exceed c =
    let s = sheet_of c.args.self.now.basis.sheet.bytes.now in
    let e : ltb s.shared_meter (hot_water_wh s) ≡ false = le-ltb s.shared_meter (hot_water_wh s) (omega (arith, c.from.ensures, c.header.ensures, c.args.self.now.water_is)) in
    rw (e, sym c.zero_divisor.ensures ∙ c.if-zero_divisor.false, sym c.no_readings.ensures ∙ c.if-no_readings.false, sym c.meters_exceed.ensures ∙ c.if-meters_exceed.true)

pub returns-then-pool_exceeded : goal.returns-then-pool_exceeded
unfolding first_refusal month_rules
returns-then-pool_exceeded c =
    let s = sheet_of c.args.self.now.basis.sheet.bytes.now in
    let e : ltb s.shared_meter (hot_water_wh s) ≡ false = le-ltb s.shared_meter (hot_water_wh s) (omega (arith, c.from.ensures, c.header.ensures, c.args.self.now.water_is)) in
    rw (
      e,
      sym c.zero_divisor.ensures ∙ c.if-zero_divisor.false,
      sym c.no_readings.ensures ∙ c.if-no_readings.false,
      sym c.meters_exceed.ensures ∙ c.if-meters_exceed.false,
      sym c.pool_exceeded.ensures ∙ c.if-pool_exceeded.true,
    )

pub returns : goal.returns
unfolding first_refusal month_rules
returns c =
    let s = sheet_of c.args.self.now.basis.sheet.bytes.now in
    let e : ltb s.shared_meter (hot_water_wh s) ≡ false = le-ltb s.shared_meter (hot_water_wh s) (omega (arith, c.from.ensures, c.header.ensures, c.args.self.now.water_is)) in
    rw (
      e,
      sym c.zero_divisor.ensures ∙ c.if-zero_divisor.false,
      sym c.no_readings.ensures ∙ c.if-no_readings.false,
      sym c.meters_exceed.ensures ∙ c.if-meters_exceed.false,
      sym c.pool_exceeded.ensures ∙ c.if-pool_exceeded.false,
    )

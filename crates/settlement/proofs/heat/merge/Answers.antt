use Rattle.std.specs.Prelude.{if◌then◌else◌}
use mathlib.Core.Path.{◌≡◌, refl, sym, ap, ◌∙◌}
use mathlib.Core.Bool.{Bool, true, false, not}
use native.Mathlib.Omega.{arith}
use lib.ListN.{drop, get_or}
use Rattle.sheet.specs.Layout.{sheet_of}
use mir.Val.{bool_byte}
use Rattle.apportion.specs.Shares.{bit}
use Rattle.sheet.specs.Inner.Fields.{unit_of}
use Rattle.sheet.proofs.Units.{units-from}
use Rattle.month.specs.Weights.{is_read}
use Rattle.weights.proofs.Rows.{bit_le}
use Rattle.settlement.proofs.Order.{turn-order, order-end}
use Rattle.settlement.proofs.heat.merge.Goals as goal
use Rattle.settlement.proofs.heat.merge.Goals.{then-is_read, else-is_read}

byte_is_bit : (t : Bool) → bool_byte t ≡ bit t
byte_is_bit true = refl
byte_is_bit false = refl

pub loop-i-init : goal.loop-i-init
loop-i-init c = (omega arith, (omega arith, refl))

pub loop-i-preserved : goal.loop-i-preserved
loop-i-preserved c =
    let a = c.args in
    let bytes = a.sheet.bytes.now in
    let s = sheet_of bytes in
    let l = c.loop-i in
    let u = unit_of s l.i in
    let read : c.is_read-is_read.result ≡ is_read u = c.is_read-is_read.ensures ∙ ap is_read c.row.ensures.unit in
    let x : c.from.result ≡ bit (not (is_read u)) = c.from.ensures ∙ byte_is_bit (not c.is_read-is_read.result) ∙ ap (λ (t : Bool). bit (not t)) read in
    let y : c.from-in-loop-i.result ≡ bit (is_read u) = c.from-in-loop-i.ensures ∙ byte_is_bit c.is_read-is_read.result ∙ ap bit read in
    let v : c.if-is_read.out ≡ (if is_read u then get_or a.read.now l.r 0 else get_or a.unread.now l.q 0) =
    elim c.if-is_read.branch [ then-is_read w ↦ rw (sym read ∙ w.if-is_read.true) w.out-is | else-is_read w ↦ rw (sym read ∙ w.if-is_read.false) w.out-is ] in (
      omega (arith, x, bit_le (not (is_read u))),
      (
        omega (arith, y, bit_le (is_read u)),
        turn-order s.units u a.unread.now a.read.now l.out l.i l.q l.r (units-from bytes l.i (omega (arith, c.unit_count-i-end.ensures))) (omega (arith, c.unit_count-i-end.ensures)) v x y l.invariant.1.1,
      ),
    )

pub returns : goal.returns
returns c =
    let a = c.args in
    let s = sheet_of a.sheet.bytes.now in
    let l = c.loop-i in
    let e : l.i ≡ s.unit_count = omega (arith, c.unit_count-i-end.ensures) in
    rw (← e)
    (order-end s.units (drop l.q a.unread.now) (drop l.r a.read.now) l.out l.i (omega (arith, a.sheet.fits.units_length)) l.invariant.1.1)

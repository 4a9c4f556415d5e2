use mathlib.Core.Path.{◌≡◌, refl}
use native.Mathlib.Omega.{arith}
use lib.ListN.{length, get_or, length-set}
use Rattle.settlement.proofs.Writing.{put-none, put_next}
use Rattle.charges.specs.Inner.Columns.{column_place}
use Rattle.charges.proofs.columns.put_column.Goals as goal

pub loop-i-init : goal.loop-i-init
loop-i-init c = record { room = omega arith; written = put-none _ _ _ }

pub loop-i-preserved : goal.loop-i-preserved
loop-i-preserved c =
    let a = c.args in
    let l = c.loop-i in
    record {
      room = simp length-set l.invariant.room;
      written = put_next (column_place a.column) (λ k. get_or a.parts.now k 0) (λ k m e. omega arith) _ l.charges refl refl (omega (arith, l.invariant.room)) refl l.invariant.written;
    }

pub returns : goal.returns
returns c =
    let l = c.loop-i in
    let e : l.i ≡ length c.args.parts.now = omega arith in
    rw (← e) l.invariant.written

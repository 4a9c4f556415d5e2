use mathlib.Core.Path.{◌∙◌}
use native.Mathlib.Omega.{arith}
use lib.Seq.{get_or-set_same, get_or-set_other, ext_get_or}
use Rattle.std.proofs.Common.{below_more}
use Rattle.year_sums.proofs.Updating.{long, there, fits_there}
use Rattle.year_sums.proofs.list.shift.Goals as goal

pub overflow_sub-sum : goal.overflow_sub-sum
overflow_sub-sum c =
    let k = c.loop-k.k in let fits = fits_there c.requires.long c.requires.fits k (omega arith) in
    omega (arith, fits.above, c.loop-k.invariant.left k (omega arith))

pub overflow_add-sum : goal.overflow_add-sum
overflow_add-sum c =
    let k = c.loop-k.k in let fits = fits_there c.requires.long c.requires.fits k (omega arith) in
    omega (arith, fits.below, c.loop-k.invariant.left k (omega arith))

pub loop-k-preserved : goal.loop-k-preserved
loop-k-preserved c =
    let inv = c.loop-k.invariant in let k = c.loop-k.k in let s = c.loop-k.sums in record {
      changed = below_more _ _
          (λ j h. get_or-set_other s k j _ 0 (omega arith) ∙ inv.changed j h)
          (get_or-set_same s k _ 0 (omega arith) ∙ omega (arith, inv.left k (omega arith), there c.requires.long k (omega arith)));
      left = λ j h. get_or-set_other s k j _ 0 (omega arith) ∙ inv.left j (omega arith);
    }

pub returns : goal.returns
returns c = ext_get_or 0 c.loop-k.sums _ (omega (arith, long c.requires.long)) (λ j h. c.loop-k.invariant.changed j (omega arith))

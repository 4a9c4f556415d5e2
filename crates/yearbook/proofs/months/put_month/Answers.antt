use native.Mathlib.Omega.{arith}
use lib.ListN.{length-set}
use Rattle.yearbook.specs.LentBook.{put_month}
use Rattle.yearbook.proofs.Stores.{part-written}
use Rattle.yearbook.proofs.months.put_month.Goals as goal

pub returns : goal.returns
unfolding put_month
returns c = rw c.copy_from_slice.ensures.after (part-written c.args.month.block.now _ _ _ (omega arith) (simp length-set (omega arith)))

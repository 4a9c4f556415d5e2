-- `heatcost_record_sheet_len` meets its contract.
use mathlib.Core.Path.{ap, ◌∙◌}
use lib.ListN.{length}
use Rattle.archive.proofs.Places.{part_length}
use Rattle.heatcost.proofs.heatcost_record_sheet_len.Goals as goal

pub returns : goal.returns
returns c = ap length c.sheet_of-part.ensures.bytes ∙ part_length c.args.bytes.now

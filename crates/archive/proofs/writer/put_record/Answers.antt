-- The three parts, one after the other.
use Rattle.archive.specs.Record.{archive_record}
use Rattle.archive.proofs.writer.put_record.Goals as goal

pub returns : goal.returns
unfolding archive_record
returns c = rw (c.copy_from_slice.ensures.after, c.put_bytes.ensures, c.put_numbers.ensures)

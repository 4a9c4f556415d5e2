use Rattle.sheet.specs.Check.{row_tests}
use Rattle.sheet.proofs.ranges.row_ranges.Goals as goal

pub returns : goal.returns
unfolding row_tests
returns c =
    let limits = c.requires.2 in
    rw (
      c.if_read.ensures,
      c.entry.ensures,
      c.entry-2.ensures,
      c.unit_field-status.ensures,
      c.unit_field-class.ensures,
      limits.status,
      limits.class,
      limits.reading,
    )

use Rattle.sheet.specs.Check.{header_tests}
use Rattle.sheet.proofs.ranges.header_ranges.Goals as goal

pub returns : goal.returns
unfolding header_tests
returns c =
    rw (
      c.entry-other.ensures,
      c.entry.ensures,
      c.entry-2.ensures,
      c.entry-3.ensures,
      c.entry-4.ensures,
      c.entry-5.ensures,
      c.entry-6.ensures,
      c.header_field-model.ensures,
      c.header_field-source.ensures,
    )

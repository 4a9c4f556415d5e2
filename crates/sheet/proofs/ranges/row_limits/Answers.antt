use mathlib.Core.Path.{ap, ◌∙◌}
use Rattle.sheet.specs.Check.{entry, status_ranges, water_class_ranges, reading_ranges}
use Rattle.sheet.proofs.ranges.row_limits.Goals as goal

pub returns : goal.returns
returns c =
    let model = c.header_field-model.ensures in
    let source = c.header_field-source.ensures in
    record {
      status = c.entry.ensures ∙ ap (entry status_ranges) model;
      class = c.entry-2.ensures ∙ ap (entry water_class_ranges) source;
      reading = c.entry-3.ensures ∙ ap (entry reading_ranges) model;
    }

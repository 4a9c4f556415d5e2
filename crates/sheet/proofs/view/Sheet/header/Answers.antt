use Rattle.sheet.proofs.Views.{has_header}
use Rattle.sheet.proofs.view.Sheet.header.Goals as goal

pub header_field-requires : goal.header_field-requires
header_field-requires c = has_header _ c.args.self.fits

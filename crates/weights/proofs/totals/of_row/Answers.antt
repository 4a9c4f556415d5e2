use mathlib.Core.Path.{◌≡◌, sym, ap, ap₂, subst, ◌∙◌}
use mathlib.Core.Bool.{Bool, not}
use Rattle.sheet.specs.Inner.Views.{sheet_in, unit_in}
use Rattle.weights.specs.Inner.Totals.{only_if, of_unit, Within}
use Rattle.weights.proofs.Rows.{litres_counted, reading_counted}
use Rattle.weights.proofs.Ready.{row_fits}
use Rattle.weights.proofs.Sums.{unit-within}
use Rattle.weights.proofs.totals.of_row.Goals as goal

pub returns : goal.returns
returns c =
    let row = c.args.row in
    let s = sheet_in row in
    let u = unit_in row in
    let fits = row_fits row in
    let read = c.is_read-read.ensures in
    let volume = c.is_by_volume-by_volume.ensures in
    let persons = c.is_by_persons-by_persons.ensures in
    let area = c.from-p.ensures ∙ c.field.ensures in
    let same : _ ≡ of_unit s u = λ i. record {
      area = area i;
      load = (c.from.ensures ∙ c.field-2.ensures) i;
      class1 = (c.only_if.ensures ∙ ap (λ (t : Bool). only_if t 1) volume) i;
      class2 = (c.only_if-2.ensures ∙ ap (λ (t : Bool). only_if t 1) persons) i;
      litres = (c.from-2.ensures ∙ c.field-3.ensures ∙ litres_counted fits) i;
      persons2 = (c.only_if-3.ensures ∙ ap₂ only_if persons (c.from-3.ensures ∙ c.field-4.ensures)) i;
      persons = c.common_water_weight.ensures.0 i;
      unread = (c.only_if-4.ensures ∙ ap₂ only_if (ap not read) c.unread_weight.ensures.0) i;
      read = (c.only_if-5.ensures ∙ ap (λ (t : Bool). only_if t 1) read) i;
      readarea = (c.only_if-6.ensures ∙ ap₂ only_if read area) i;
      surface = (c.only_if-7.ensures ∙ ap₂ only_if read (c.from-4.ensures ∙ c.field-5.ensures)) i;
      readings = (c.from-5.ensures ∙ c.field-6.ensures ∙ reading_counted fits) i;
    } in
    (same, subst (Within 1) (sym same) (unit-within s u row.sheet.fits.header.unmetered_factor_high fits))

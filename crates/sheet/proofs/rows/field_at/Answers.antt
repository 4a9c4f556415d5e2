use mathlib.Core.Path.{refl, ◌∙◌}
use native.Mathlib.Omega.{arith}
use Rattle.sheet.specs.Layout.{unit_row}
use Rattle.sheet.proofs.Fields.{le16_cut, le32_cut}
use Rattle.sheet.proofs.rows.field_at.Goals as goal

pub returns-in-LocationFactor : goal.returns-in-LocationFactor
unfolding unit_row
returns-in-LocationFactor c = rw c.in-LocationFactor.is (c.read16.ensures ∙ le16_cut c.args.s.now c.args.at _ 6 refl (omega arith))

pub returns-in-HeatedArea : goal.returns-in-HeatedArea
unfolding unit_row
returns-in-HeatedArea c = rw c.in-HeatedArea.is (c.read32-in-HeatedArea.ensures ∙ le32_cut c.args.s.now c.args.at _ 8 refl (omega arith))

pub returns-in-RiserSurface : goal.returns-in-RiserSurface
unfolding unit_row
returns-in-RiserSurface c = rw c.in-RiserSurface.is (c.read32-in-RiserSurface.ensures ∙ le32_cut c.args.s.now c.args.at _ 12 refl (omega arith))

pub returns-in-HeatLoad : goal.returns-in-HeatLoad
unfolding unit_row
returns-in-HeatLoad c = rw c.in-HeatLoad.is (c.read32-in-HeatLoad.ensures ∙ le32_cut c.args.s.now c.args.at _ 16 refl (omega arith))

pub returns-in-Reading : goal.returns-in-Reading
unfolding unit_row
returns-in-Reading c = rw c.in-Reading.is (c.read32-in-Reading.ensures ∙ le32_cut c.args.s.now c.args.at _ 20 refl (omega arith))

pub returns-in-Litres : goal.returns-in-Litres
unfolding unit_row
returns-in-Litres c = rw c.in-Litres.is (c.read32-in-Litres.ensures ∙ le32_cut c.args.s.now c.args.at _ 24 refl (omega arith))

pub returns-in-Persons : goal.returns-in-Persons
unfolding unit_row
returns-in-Persons c = rw c.in-Persons.is (c.read16-in-Persons.ensures ∙ le16_cut c.args.s.now c.args.at _ 28 refl (omega arith))

pub returns-in-Reserved : goal.returns-in-Reserved
unfolding unit_row
returns-in-Reserved c = rw c.in-Reserved.is (c.read16-in-Reserved.ensures ∙ le16_cut c.args.s.now c.args.at _ 30 refl (omega arith))

-- The buildings as code reads them: by their places in the list, and as the group that they make.
use Rattle.std.specs.Prelude.{List, [], ◌∷◌, map, ℕ, get_or}
use Rattle.sheet.specs.declared.refusal.Refusal.TheVariants.{BadGroup}
use Rattle.sheet.specs.Refusals.{Outcome, ◌⇒◌, first_refusal}
use Rattle.sheet.specs.Layout.{Sheet, sheet_of}
use Rattle.group.specs.declared.buildings.Building.{Building}
use Rattle.group.specs.declared.buildings.Group.{Group as GroupView}
use Rattle.group.specs.Group.{Group}
use Rattle.group.specs.Answer.{part_of, parts_of, bad_group}

-- building i; one past the end has no bytes
abbrev pub building_at : List Building → ℕ → Building
building_at bs i = get_or bs i (record { offset = 0; length = 0 })

-- 22, before everything else
abbrev pub first_answer : List ℕ → List Building → ℕ → Outcome
first_answer buffer bs reading = first_refusal ((bad_group buffer bs reading ⇒ BadGroup) ∷ [])

-- building i's part of the buffer; all parts, their sheets, and the group of them
abbrev pub part_in : GroupView → ℕ → List ℕ
part_in g i = part_of g.sheets.now (building_at g.buildings.now i)

abbrev pub parts_in : GroupView → List (List ℕ)
parts_in g = parts_of g.sheets.now g.buildings.now

abbrev pub sheets_in : GroupView → List Sheet
sheets_in g = map sheet_of (parts_in g)

abbrev pub group_in : GroupView → Group
group_in g = record { buildings = sheets_in g; shared_reading = g.reading }

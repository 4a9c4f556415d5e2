-- An answer as one number: 0 when accepted, else the refusal's number + 256 × its place.
use Rattle.std.specs.Prelude.{ℕ, ◌+◌, ◌*◌, Ok, Err}
use Rattle.sheet.specs.Refusals.{Outcome, number_of, place_of}
use Rattle.group.specs.Answer.{GroupAnswer, place_in}

abbrev pub answer_number : Outcome → ℕ
answer_number (Ok tt) = 0
answer_number (Err r) = number_of r + 256 * place_of r

-- of a group: the place raised by 160 × the building's (2026-04)
abbrev pub group_number : GroupAnswer → ℕ
group_number (Ok tt) = 0
group_number (Err e) = number_of e.refusal + 256 * place_in e

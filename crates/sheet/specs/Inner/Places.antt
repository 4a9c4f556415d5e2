-- A fact of a refusal, if there is one; its number, and how far its place goes. proofs/Places.antt shows it.
use Rattle.std.specs.Prelude.{◌≡◌, ◌⊎◌, ℕ, ◌≤◌, ◌<◌, Ok, Err}
use Rattle.sheet.specs.declared.refusal.Refusal.{Refusal}
use Rattle.sheet.specs.Refusals.{Outcome, number_of, place_of}

abbrev pub IfRefused : (Refusal → Type 0) → Outcome → Type 0
IfRefused P (Ok tt) = Unit {0}
IfRefused P (Err r) = P r

-- a refusal's place is below k
abbrev pub PlaceBelow : ℕ → Outcome → Type 0
PlaceBelow k = IfRefused (λ r. place_of r < k)

-- one of the refusals 1 to k, with which 20 goes along (2026-03)
abbrev pub UpTo : ℕ → Refusal → Type 0
UpTo k r = (number_of r ≤ k) ⊎ (number_of r ≡ 20)

-- All and any of a list of tests, a fact of each of a list.
use Rattle.std.specs.Prelude.{Bool, true, false, ◌&&◌, ◌||◌, List, [], ◌∷◌}

unfoldable pub all : List Bool → Bool
all [] = true
all (t ∷ ts) = t && all ts

unfoldable pub any : List Bool → Bool
any [] = false
any (t ∷ ts) = t || any ts

-- a fact of each of a list
abbrev pub Each : {A : Type 0} → (A → Type 0) → List A → Type 0
Each P [] = Unit {0}
Each P (x ∷ xs) = P x × Each P xs

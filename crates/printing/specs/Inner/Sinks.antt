-- What sinks promise of the texts that they take.
use Rattle.std.specs.Prelude.{◌≡◌, List, [], ◌++◌, ℕ, ◌+◌, ◌≤◌, length}

-- Texts taken one after the other are their whole taken at once, and each takes its own room.
pub record SinkLaws {S : Type 0} (left : S → ℕ) (took : S → List ℕ → S → Type 0) : Type 0 where
  pub none : (s : S) → took s [] s
  pub both : (s t u : S) (x y : List ℕ) → took s x t → took t y u → took s (x ++ y) u
  pub room : (s t : S) (x : List ℕ) → took s x t → length x ≤ left s → left t + length x ≡ left s

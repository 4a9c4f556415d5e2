-- What a view of a book looks at. Assumes nothing.
use mathlib.Core.Path.{◌≡◌, sym, ap}
use mathlib.Core.List.{List}
use denote.Bor.{Bor}
use Prim.Native.Nat.{ℕ}

-- what a call was lent, by the view of it
pub same : {lent view : Bor (List ℕ)} → view ≡ lent → lent.now ≡ view.now
same e = ap (λ (r : Bor (List ℕ)). r.now) (sym e)

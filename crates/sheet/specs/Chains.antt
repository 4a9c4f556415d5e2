-- Calls one after the other, each lent what the last one left (document 01, "Year book"; 2026-07): what their contracts say of them all, and beside it a plain form, as the plain year book or the plain fund.
use Rattle.std.specs.Prelude.{List, [], ◌∷◌}

-- Calls on what is lent, with their replies, and what they leave: `Answered` is what the contract of a call says.
pub data CallsMade {Lent Call Reply : Type 0} (Answered : Lent → Call → Reply → Lent → Type 0) : Lent → List Call → List Reply → Lent → Type 0 where
  no_call : {l : Lent} → CallsMade Answered l [] [] l
  then : {l l' l'' : Lent} {c : Call} {cs : List Call} {r : Reply} {rs : List Reply} → Answered l c r l' → CallsMade Answered l' cs rs l'' → CallsMade Answered l (c ∷ cs) (r ∷ rs) l''

-- a call of a plain form: its reply, and what the form keeps afterwards
pub record Step (Kept Reply : Type 0) : Type 0 where
  pub reply : Reply
  pub after : Kept

-- the replies to a list of calls, and what the form keeps after them
unfoldable pub replies : {Kept Call Reply : Type 0} (called : Kept → Call → Step Kept Reply) → Kept → List Call → List Reply
replies called p [] = []
replies called p (c ∷ cs) = (called p c).reply ∷ replies called (called p c).after cs

unfoldable pub after_all : {Kept Call Reply : Type 0} (called : Kept → Call → Step Kept Reply) → Kept → List Call → Kept
after_all called p [] = p
after_all called p (c ∷ cs) = after_all called (called p c).after cs

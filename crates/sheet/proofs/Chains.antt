-- What holds of every list of calls, when it holds of each call. Assumes nothing.
use mathlib.Core.Path.{◌≡◌, refl, ap₂}
use mathlib.Core.List.{List, [], ◌∷◌}
use Rattle.sheet.specs.Chains.{CallsMade, no_call, then, Step, replies, after_all}

-- ---- a plain form stands for what is lent, and every call keeps it so and is answered as it answers
module _ {Lent Call Reply Kept : Type 0} {Answered : Lent → Call → Reply → Lent → Type 0} {called : Kept → Call → Step Kept Reply} (Stands : Lent → Kept → Type 0)
    (follows : (l l' : Lent) (c : Call) (r : Reply) (p : Kept) → Answered l c r l' → Stands l p → (r ≡ (called p c).reply) × Stands l' (called p c).after) where
  pub all_follow : {l l' : Lent} {cs : List Call} {rs : List Reply} → CallsMade Answered l cs rs l' → (p : Kept) → Stands l p
      → (rs ≡ replies called p cs) × Stands l' (after_all called p cs)
  unfolding replies after_all
  all_follow no_call p h = (refl, h)
  all_follow (then {l = l} {l' = l'} {c = c} {r = r} a k) p h =
      let one = follows l l' c r p a h in
      let rest = all_follow k (called p c).after one.1 in
      (ap₂ (λ (x : Reply) (xs : List Reply). x ∷ xs) one.0 rest.0, rest.1)

-- ---- where a contract says reply and what is left, calls can be made
pub made : {Lent Call Reply : Type 0} (Answered : Lent → Call → Reply → Lent → Type 0) (step : Lent → Call → Step Lent Reply)
    → ((l : Lent) (c : Call) → Answered l c (step l c).reply (step l c).after) → (l : Lent) (cs : List Call) → CallsMade Answered l cs (replies step l cs) (after_all step l cs)
unfolding replies after_all
made Answered step says l [] = no_call
made Answered step says l (c ∷ cs) = then (says l c) (made Answered step says (step l c).after cs)

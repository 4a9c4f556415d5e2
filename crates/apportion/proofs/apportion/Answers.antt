-- `apportion` meets its contract: with something to divide there is a weight.
use mathlib.Core.Path.{◌≡◌, ap, ◌∙◌}
use mathlib.Core.List.{List}
use Prim.Native.Nat.{ℕ, ◌<◌}
use native.Mathlib.Decide.{dec_lt}
use native.Mathlib.Omega.{arith}
use lib.ListN.{length, replicate}
use Rattle.apportion.specs.Shares.{sum, shares}
use Rattle.apportion.proofs.Plan.{none_shared}
use Rattle.apportion.proofs.apportion.Goals as goal
use Rattle.apportion.proofs.apportion.Goals.{then-total-eq0, else-total-eq0}

weighted : (total : ℕ) (ws : List ℕ) → (sum ws ≡ 0 → total ≡ 0) → 0 < total → 0 < sum ws
weighted total ws none h = elim (dec_lt 0 (sum ws)) [ yes p ↦ p | no p ↦ absurd (omega (arith, none (omega arith))) ]

pub divide-requires-clause-total_bound : goal.divide-requires-clause-total_bound
divide-requires-clause-total_bound c =
    let p = c.requires.total_bound in
    (p.0, weighted c.args.total c.args.ws.now p.2 (omega arith), p.1)

pub returns : goal.returns
returns c =
    let a = c.args in
    let ws = a.ws.now in
    let lengths = c.requires.scratch_len in
    let shared : c.if-total-eq0.out ≡ shares a.ties a.total ws =
    elim c.if-total-eq0.branch [
      | then-total-eq0 w ↦ w.out-is ∙ w.fill.ensures.after (λ y e. e) ∙ none_shared a.ties a.total ws (length a.out.now) (omega arith) lengths.1
      | else-total-eq0 w ↦ w.out-is ∙ w.divide.ensures
    ] in
    (shared, c.fill-2.ensures.after (λ y e. e) ∙ ap (λ (n : ℕ). replicate n 0) (c.if-total-eq0.auto.scratch ∙ lengths.0))

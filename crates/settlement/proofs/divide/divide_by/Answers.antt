use mathlib.Core.Path.{refl, ap, ◌∙◌}
use mathlib.Core.List.{List, ◌++◌}
use Prim.Native.Nat.{ℕ}
use native.Mathlib.Omega.{arith}
use lib.ListN.{length, drop}
use Rattle.weights.specs.Inner.Months.{sheet_of_month}
use Rattle.weights.proofs.Ready.{month_accepted}
use Rattle.month.specs.Steps.{shares_under}
use Rattle.weights.specs.Inner.By.{weights_by}
use Rattle.settlement.proofs.Dividing.{weights_fit, zeros_shared, front_shares}
use Rattle.settlement.proofs.divide.divide_by.Goals as goal

pub returns-then-total-eq0 : goal.returns-then-total-eq0
returns-then-total-eq0 c = zeros_shared c.args.month.now c.args.by (omega arith) c.requires.0

pub slice_bounds-weights-end : goal.slice_bounds-weights-end
slice_bounds-weights-end c = omega (arith, c.gather-m.ensures.few, (month_accepted c.args.month.now).checked-sheet.header.unit_count)

pub share-requires-clause-divides : goal.share-requires-clause-divides
share-requires-clause-divides c =
    let m = c.args.month.now in
    rw c.gather-m.ensures.weights (c.requires.1, weights_fit m.basis.rules (sheet_of_month m) (month_accepted m).checked-sheet c.args.by)

pub returns : goal.returns
returns c =
    let m = c.args.month.now in
    let g = c.gather-m in
    front_shares m.basis.rules c.args.total _ (weights_by m.basis.rules c.args.by (sheet_of_month m)) c.share.new.out _ refl c.requires.1.1 (c.share.ensures ∙ ap (λ (ws : List ℕ). shares_under m.basis.rules c.args.total ws ++ drop (length ws) c.args.out.now) g.ensures.weights)

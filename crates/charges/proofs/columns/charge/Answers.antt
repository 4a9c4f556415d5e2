use mathlib.Core.Path.{◌≡◌, ap, ◌∙◌}
use Prim.Native.Nat.{ℕ}
use lib.ListN.{length}
use Rattle.std.proofs.Common.{rules}
use Rattle.sheet.specs.RuleSets.{newest}
use Rattle.month.specs.Steps.{shares_under}
use Rattle.settlement.proofs.Dividing.{all_shares}
use Rattle.charges.specs.Inner.Columns.{column_place}
use Rattle.charges.proofs.ByUnit.{put_whole}
use Rattle.charges.proofs.columns.charge.Goals as goal

pub returns : goal.returns
returns c =
    let a = c.args in
    let l : length c.share.new.out ≡ length a.weights.now = search rules in
    put_whole (column_place a.column) _ (all_shares newest _ a.weights.now _ (search rules) c.share.ensures ∙ ap (λ (t : ℕ). shares_under newest t a.weights.now) c.from.ensures) _ _ c.put_column.ensures l

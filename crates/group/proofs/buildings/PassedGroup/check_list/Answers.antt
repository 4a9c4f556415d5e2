use mathlib.Core.Path.{◌≡◌, sym, ap, ◌∙◌}
use mathlib.Core.Bool.{Bool, true, false}
use mathlib.Core.List.{List, map}
use Prim.Native.Nat.{ℕ, ◌*◌, ◌≤◌}
use native.Mathlib.Omega.{arith}
use Rattle.std.specs.List as std
use Rattle.std.proofs.Common.{rules}
use Rattle.apportion.specs.Shares.{sum}
use Rattle.sheet.specs.Layout.{Sheet}
use Rattle.group.specs.declared.buildings.PassedGroup.{PassedGroup}
use Rattle.group.specs.Answer.{differs, unlike}
use Rattle.group.specs.Inner.Parts.{sheets_in}
use Rattle.apportion.proofs.Sums.{sum_is}
use Rattle.group.proofs.Passing.{units_few}
use Rattle.group.proofs.Outcomes.{months_differ, wrong_list, right-list}
use Rattle.group.proofs.buildings.PassedGroup.check_list.Goals.{After-fields, After-sum-count, then-differs-via-then-differs, then-differs-via-else-differs+then-differs-2}
use Rattle.group.proofs.buildings.PassedGroup.check_list.Goals as goal

pub returns-then-differs : goal.returns-then-differs
unfolding unlike
returns-then-differs c =
    let e : unlike (sheets_in c.args.self.group) ≡ true = elim c.then-differs.branch [
      | then-differs-via-then-differs w ↦ rw (← c.differs.ensures, w.if-differs.true)
      | then-differs-via-else-differs+then-differs-2 w ↦ rw (← c.differs.ensures, w.if-differs.false, ← w.differs-else-differs.ensures, w.if-differs-2.true)
    ] in
    months_differ _ c.args.numbers e

few : (p : PassedGroup) → sum (map (λ (u : Sheet). u.unit_count) (sheets_in p.group)) ≤ 1920
few p = units_few _ _ p.passed p.group.reading p.group.good

pub sum-count-requires-clause-fits : goal.sum-count-requires-clause-fits
sum-count-requires-clause-fits c =
    let h : std.sum c.fields.new.out ≤ 1920 = omega (arith, sum_is c.fields.new.out, ap sum c.fields.ensures, few c.args.self) in search rules

count_is : (c : After-sum-count) → c.sum-count.result ≡ sum (map (λ (u : Sheet). u.unit_count) (sheets_in c.args.self.group))
count_is c = let h : c.sum-count.result ≡ std.sum c.fields.new.out = search rules in h ∙ sum_is c.fields.new.out ∙ ap sum c.fields.ensures

pub overflow_mul-count : goal.overflow_mul-count
overflow_mul-count c = omega (arith, count_is (goal.at.overflow_mul-count c).After-sum-count, few c.args.self)

alike : (ss : List Sheet) {months prices : Bool} → months ≡ differs (map (λ s. s.month) ss) → months ≡ false → prices ≡ differs (map (λ s. s.price) ss) → prices ≡ false → unlike ss ≡ false
unfolding unlike
alike ss m n p q = rw (sym m ∙ n, sym p ∙ q)

pub returns-then-numbers-count : goal.returns-then-numbers-count
returns-then-numbers-count c = wrong_list _ c.args.numbers (alike _ c.differs.ensures c.if-differs.false c.differs-else-differs.ensures c.if-differs-2.false) (λ e. c.if-numbers-count.true (e ∙ ap (λ (k : ℕ). 8 * k) (sym (count_is (goal.at.returns-then-numbers-count c).After-sum-count))))

pub returns : goal.returns
returns c = right-list _ c.args.numbers (alike _ c.differs.ensures c.if-differs.false c.differs-else-differs.ensures c.if-differs-2.false) (c.if-numbers-count.false ∙ ap (λ (k : ℕ). 8 * k) (count_is (goal.at.returns c).After-sum-count))

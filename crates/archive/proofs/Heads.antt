-- Whose head the first eight bytes are. Assumes nothing.
use mathlib.Core.Path.{◌≡◌, refl, sym, ap, ◌∙◌}
use mathlib.Core.Bool.{Bool}
use lib.Dec.{eqb}
use Rattle.std.specs.List.{starts_with}
use Rattle.std.proofs.lemmas.Cmp.{nat_list_eq_equiv}
use Rattle.sheet.proofs.Passed.{same_pointwise}
use mathlib.Core.Logic.{inl, inr}
use mathlib.Core.List.{List, [], ◌∷◌}
use Prim.Native.Nat.{ℕ}
use native.Mathlib.Omega.{arith}
use lib.ListN.{take}
use Rattle.std.specs.Prelude.{None, Some}
use Rattle.sheet.specs.declared.rule_set.RuleSet.{RuleSet}
use Rattle.sheet.specs.declared.rule_set.RuleSet.TheVariants.{Archive1, Archive2, Archive3}
use Rattle.sheet.specs.RuleSets.{rule_sets}
use Rattle.sheet.specs.Check.{same_list}
use Rattle.archive.specs.Record.{archive_head}
use Rattle.archive.specs.Reader.{head_among, head_of}
use Rattle.archive.specs.Theorems.{RightHead}
use Rattle.month.proofs.Lists.{decided}
use Rattle.archive.proofs.Bytes.{same_equal, refuted}

-- each version's head names its rules
named : (rules : RuleSet) → head_among rule_sets (archive_head rules) ≡ Some rules
unfolding head_among
named Archive1 = refl
named Archive2 = refl
named Archive3 = refl

pub right_of : (rules : RuleSet) (bytes : List ℕ) → RightHead rules bytes → head_of bytes ≡ Some rules
right_of rules bytes h = ap (head_among rule_sets) h ∙ named rules

-- only the head itself does
pub head-is : (rules : RuleSet) (among : List RuleSet) (head : List ℕ) → head_among among head ≡ Some rules → head ≡ archive_head rules
unfolding head_among
head-is rules [] head e = absurd (let z : ◌≡◌ {A = ℕ} 0 1 = cc in omega arith)
head-is rules (first ∷ more) head e = elim (decided (same_list head (archive_head first))) [
  | inl s ↦
      let k = rw s at e in
      let same : first ≡ rules = cc in
      same_equal head (archive_head first) s ∙ ap archive_head same
  | inr s ↦ head-is rules more head (rw s at e)
]

pub wrong_of : (among : List RuleSet) (head : List ℕ) → ((rules : RuleSet) → head ≡ archive_head rules → ⊥) → head_among among head ≡ None
unfolding head_among
wrong_of [] head h = refl
wrong_of (first ∷ more) head h = rw (refuted (same_list head (archive_head first)) (λ e. h first (same_equal head (archive_head first) e))) (wrong_of more head h)

-- as the code tests it
pub starts_as : (rules : RuleSet) (bytes : List ℕ) {t : Bool} → t ≡ starts_with eqb bytes (archive_head rules) → same_list (take 8 bytes) (archive_head rules) ≡ t
starts_as rules bytes e = sym (e ∙ nat_list_eq_equiv.symm (archive_head rules) (take 8 bytes) ∙ same_pointwise (take 8 bytes) (archive_head rules))

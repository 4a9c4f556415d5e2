use mathlib.Core.Path.{◌≡◌, refl, ap, ◌∙◌}
use mathlib.Core.List.{List}
use denote.Bor.{Bor}
use Prim.Native.Nat.{ℕ}
use Rattle.std.specs.Prelude.{Some, None}
use Rattle.std.specs.declared.option.Option.{Option}
use Rattle.std.specs.Option.{unwrap_or, option_copied}
use Rattle.year_sums.specs.YearSums.{zero_sums}
use Rattle.year_sums.specs.Inner.Update.{old_or_zeros}
use Rattle.year_sums.proofs.list.old_or_zeros.Goals as goal

shown : (old : Option (Bor (List ℕ))) (nothing : Bor (List ℕ)) → nothing.now ≡ zero_sums → (unwrap_or old nothing).now ≡ old_or_zeros (option_copied old)
shown None nothing e = e
shown (Some old) nothing e = refl

pub returns : goal.returns
returns c = ap (λ (r : Bor (List ℕ)). r.now) c.unwrap_or.ensures ∙ shown c.args.old _ refl

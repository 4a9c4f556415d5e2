-- Computed cases (document 01, "Cases for the proofs", G and H, and T = 0 with W = 0; ties by both rules, 2026-06).
use Rattle.std.specs.Prelude.{◌≡◌, refl, List, [], ◌∷◌, map, ℕ, ◌+◌, ◌*◌}
use Rattle.apportion.specs.declared.tie_rule.TieRule.{TieRule}
use Rattle.apportion.specs.declared.tie_rule.TieRule.TheVariants.{EarlierFirst, LargerFirst}
use Rattle.apportion.specs.Shares.{extras, shares, shares_by}

-- alike by both rules
alike : TieRule → List (List ℕ)
alike ties =
    shares ties 10 (1 ∷ 1 ∷ 1 ∷ [])  -- G
    ∷ shares ties 5 (0 ∷ 3 ∷ 1 ∷ [])  -- H
    ∷ shares ties 0 (0 ∷ 0 ∷ [])
    ∷ shares ties 1 (2 ∷ 2 ∷ 0 ∷ [])  -- equal remainders and equal weights: the earlier
    ∷ shares ties 2 (3 ∷ 1 ∷ [])  -- the larger weight is the earlier item
    ∷ shares ties 5 (3 ∷ 5 ∷ 4 ∷ [])  -- remainders 3, 1, 8 of 12: a larger weight doesn't come before a larger remainder
    ∷ []

cases_alike : (ties : TieRule) → alike ties ≡ (4 ∷ 3 ∷ 3 ∷ []) ∷ (0 ∷ 4 ∷ 1 ∷ []) ∷ (0 ∷ 0 ∷ []) ∷ (1 ∷ 0 ∷ 0 ∷ []) ∷ (2 ∷ 0 ∷ []) ∷ (1 ∷ 2 ∷ 2 ∷ []) ∷ []
unfolding shares_by alike
cases_alike EarlierFirst = refl
cases_alike LargerFirst = refl

-- where the rules part
parted : TieRule → List (List ℕ)
parted ties =
    shares ties 2 (1 ∷ 3 ∷ [])  -- remainders 2, 2 of 4
    ∷ shares ties 3 (1 ∷ 3 ∷ 2 ∷ [])  -- 3, 3, 0 of 6
    ∷ shares ties 8 (1 ∷ 7 ∷ 4 ∷ [])  -- 8, 8, 8 of 12, two left over
    ∷ shares ties 9 (1 ∷ 3 ∷ 5 ∷ 9 ∷ 0 ∷ [])  -- 9, 9, 9, 9, 0 of 18, two left over
    ∷ shares ties 6 (1 ∷ 3 ∷ 3 ∷ 3 ∷ 2 ∷ [])  -- 6, 6, 6, 6, 0 of 12, two left over: of equal weights the earlier
    ∷ []

cases-earlier : parted EarlierFirst ≡ (1 ∷ 1 ∷ []) ∷ (1 ∷ 1 ∷ 1 ∷ []) ∷ (1 ∷ 5 ∷ 2 ∷ []) ∷ (1 ∷ 2 ∷ 2 ∷ 4 ∷ 0 ∷ []) ∷ (1 ∷ 2 ∷ 1 ∷ 1 ∷ 1 ∷ []) ∷ []
unfolding shares_by parted
cases-earlier = refl

cases-larger : parted LargerFirst ≡ (0 ∷ 2 ∷ []) ∷ (0 ∷ 2 ∷ 1 ∷ []) ∷ (0 ∷ 5 ∷ 3 ∷ []) ∷ (0 ∷ 1 ∷ 3 ∷ 5 ∷ 0 ∷ []) ∷ (0 ∷ 2 ∷ 2 ∷ 1 ∷ 1 ∷ []) ∷ []
unfolding shares_by parted
cases-larger = refl

-- Two left over for three items of one remainder, 5, and weights 1, 3, 2, as pairs over W 6. No division has remainders above 0 that are equal at 1, 3 and 2.
tied-three : extras 2 [] (map (λ w. 5 * (6 + 1) + w) (1 ∷ 3 ∷ 2 ∷ [])) ≡ 0 ∷ 1 ∷ 1 ∷ []
tied-three = refl

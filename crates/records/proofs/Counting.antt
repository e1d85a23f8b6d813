-- What chains of the library answer, in the words of the specifications.
use Rattle.std.proofs.Common.{◌≡◌, ℕ, ◌+◌, Bool, true, false, cond, ◌&&◌, eqb, ltb, List, [], ◌∷◌, refl, ap, ◌∙◌}
use Rattle.std.specs.List.{list_all, count_by}
use Rattle.std.proofs.lemmas.List.Sums.{sum_by-cons}
use Rattle.records.specs.Atoms.{used}
use Rattle.records.specs.Faults.{all_are}

and_is_cond : (t u : Bool) → (t && u) ≡ cond t u false
and_is_cond true u = refl
and_is_cond false u = refl

pub all_are_all : (b : ℕ) (xs : List ℕ) → list_all (λ x. eqb x b) xs ≡ all_are b xs
all_are_all b [] = refl
all_are_all b (x ∷ xs) = and_is_cond (eqb x b) _ ∙ ap (λ t. cond (eqb x b) t false) (all_are_all b xs)

pub used_count : (xs : List ℕ) → count_by (λ x. ltb x 255) xs ≡ used xs
used_count [] = refl
used_count (x ∷ xs) = sum_by-cons (λ y. cond (ltb y 255) 1 0) x xs ∙ ap (λ n. cond (ltb x 255) 1 0 + n) (used_count xs)

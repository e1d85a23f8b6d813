-- The sum source: true when the weights of the inputs that are in come to the bound or more. Assumes nothing.
use Rattle.std.specs.Prelude.{◌≡◌, ℕ, ◌+◌, cond, leb, List, [], ◌∷◌, nat_le, refl}
use Rattle.std.proofs.Common.{ap, ◌∙◌}
use Rattle.semantics.specs.Program.{Interp, Same}
use Rattle.sources.specs.declared.sum_source.Weighted.{Weighted}
use Rattle.sources.specs.declared.sum_source.SumSource.{SumSource}
use Rattle.record_oracles.specs.Inputs.{holds, holds_same}
use Rattle.record_oracles.specs.Truth.{Truth}

abbrev pub weight_in : Interp → List Weighted → ℕ
weight_in I [] = 0
weight_in I (t ∷ ts) = cond (holds I t.atom) t.weight 0 + weight_in I ts

pub weight_same : (I J : Interp) → Same I J → (ts : List Weighted) → weight_in I ts ≡ weight_in J ts
weight_same I J same [] = refl
weight_same I J same (t ∷ ts) =
    ap (λ b. cond b t.weight 0 + weight_in I ts) (holds_same I J same t.atom)
    ∙ ap (λ n. cond (holds J t.atom) t.weight 0 + n) (weight_same I J same ts)

abbrev pub sum_truth : SumSource → Truth
sum_truth s = record {
  on = λ I. nat_le s.bound (weight_in I s.terms);
  local = λ I J same. ap (leb s.bound) (weight_same I J same s.terms);
}

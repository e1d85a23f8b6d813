-- The table source: its truth is the bit whose index the inputs that are in spell. Assumes nothing.
use Rattle.std.specs.Prelude.{◌≡◌, ℕ, ◌+◌, ◌^◌, Bool, cond, List, [], ◌∷◌, drop, refl}
use Rattle.std.proofs.Common.{ap, ◌∙◌}
use Rattle.semantics.specs.Program.{Interp, Same}
use Rattle.plans.specs.declared.partial_plan.PartialPlan.{PartialPlan}
use Rattle.plans.specs.Bits.{bit_in}
use Rattle.plans.specs.Partial.{Agrees}
use Rattle.sources.specs.declared.table_source.TableSource.{TableSource}
use Rattle.record_oracles.specs.Inputs.{holds, holds_same}
use Rattle.record_oracles.specs.Truth.{Truth}

-- the sum of 2^k over the places whose atom is in, the first place being k
abbrev pub index_of : Interp → ℕ → List ℕ → ℕ
index_of I k [] = 0
index_of I k (x ∷ xs) = cond (holds I x) (2 ^ k) 0 + index_of I (k + 1) xs

pub index_same : (I J : Interp) → Same I J → (k : ℕ) (xs : List ℕ) → index_of I k xs ≡ index_of J k xs
index_same I J same k [] = refl
index_same I J same k (x ∷ xs) =
    ap (λ b. cond b (2 ^ k) 0 + index_of I (k + 1) xs) (holds_same I J same x)
    ∙ ap (λ n. cond (holds J x) (2 ^ k) 0 + n) (index_same I J same (k + 1) xs)

abbrev pub table_truth : TableSource → Truth
table_truth s = record {
  on = λ I. bit_in s.bits (index_of I 0 s.inputs);
  local = λ I J same. ap (bit_in s.bits) (index_same I J same 0 s.inputs);
}

-- on an interpretation that agrees, the places from k on add to i an index whose bit is b
pub record Reaches (s : TableSource) (p : PartialPlan) (k i : ℕ) (b : Bool) : Type 0 where
  pub at : Interp
  pub agrees : Agrees p at
  pub bit : bit_in s.bits (i + index_of at k (drop k s.inputs)) ≡ b

-- The meaning of a list of sources: its numbers are the places of the list, as many as an oracle may have. Assumes nothing.
use Rattle.std.specs.Prelude.{ℕ, zero, suc, min, false, List, [], ◌∷◌, length, refl}
use Rattle.std.proofs.Common.{arith}
use Rattle.semantics.specs.Program.{Meaning, source_limit}
use Rattle.record_oracles.specs.Truth.{Truth}

abbrev pub never : Truth
never = record { on = λ I. false; local = λ I J same. refl }

-- the truth of the source at a place
abbrev pub listed : {S : Type 0} → (S → Truth) → List S → ℕ → Truth
listed t [] n = never
listed t (s ∷ ss) zero = t s
listed t (s ∷ ss) (suc n) = listed t ss n

abbrev pub run : {S : Type 0} → (S → Truth) → List S → Meaning
run t ss = record {
  count = min source_limit (length ss);
  small = omega arith;
  truth = λ n. (listed t ss n).on;
  local = λ n. (listed t ss n).local;
}

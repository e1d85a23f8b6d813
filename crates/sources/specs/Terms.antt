-- Inputs with a number each: the weights of a sum, the days of weeks.
use Rattle.std.specs.Prelude.{◌≡◌, ℕ, ◌^◌, ◌<◌, ◌≤◌, List, slice_index}
use Rattle.records.specs.Atoms.{Ascending}

-- inputs that ascend, numbers of 32 bits, and the number 0 at an unused place
pub record TermsAllowed (atoms numbers : List ℕ) : Type 0 where
  pub inputs : Ascending atoms
  pub small : (k : ℕ) → slice_index numbers k < 2 ^ 32
  pub unused : (k : ℕ) → 255 ≤ slice_index atoms k → slice_index numbers k ≡ 0

-- Amounts that more atoms in never make less. Assumes nothing.
use Rattle.std.specs.Prelude.{◌≡◌, ℕ, ◌≤◌, true}
use Rattle.semantics.specs.Program.{Interp}
use Rattle.record_oracles.specs.Inputs.{holds}

-- every input that is in I is in J
abbrev pub Below : Interp → Interp → Type 0
Below I J = (a : ℕ) → holds I a ≡ true → holds J a ≡ true

abbrev pub Grows : (Interp → ℕ) → Type 0
Grows amount = (I J : Interp) → Below I J → amount I ≤ amount J

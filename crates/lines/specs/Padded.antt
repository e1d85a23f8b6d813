-- A line in a place of 160 bytes, and the answer of a call that writes one. Assumes nothing.
use Rattle.std.specs.Prelude.{◌≡◌, ℕ, ◌-◌, ◌≤◌, cond, List, ◌++◌, length, replicate, Ok, Err, Result, ◌==◌}
use Rattle.judge.specs.declared.verdict.CallFault.{CallFault}
use Rattle.judge.specs.declared.verdict.CallFault.TheVariants.{Place}

-- the line's bytes, then zeros
abbrev pub padded : List ℕ → List ℕ
padded bs = bs ++ replicate (160 - length bs) 0

-- a place of 160 bytes takes the line, and the answer is the line's length; any other is refused with 1 and stays as it is
pub record Answered (line place : List ℕ) (r : Result ℕ CallFault) (after : List ℕ) : Type 0 where
  pub value : r ≡ cond (length place == 160) (Ok (length line)) (Err Place)
  pub bytes : after ≡ cond (length place == 160) (padded line) place
  pub fits : length place ≡ 160 → length line ≤ 160

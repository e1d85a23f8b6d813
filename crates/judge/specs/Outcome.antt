-- What a check answers and writes. Assumes nothing.
use Rattle.std.specs.Prelude.{◌≡◌, ℕ, true, false, List, length, replicate, Some, None, Ok, Err, Option, Result, ◌==◌}
use Rattle.std.proofs.Math.Option as O
use Rattle.semantics.specs.Program.{Interp, Rule, Meaning}
use Rattle.semantics.specs.Judge as J
use Rattle.semantics.specs.Check.{Checked, fault, answered, checked}
use Rattle.plans.specs.Bits.{bytes_of}
use Rattle.judge.specs.declared.verdict.Verdict.{Verdict}
use Rattle.judge.specs.declared.verdict.Verdict.TheVariants.{Stands, Broken, Unfounded}
use Rattle.judge.specs.CallFaults.{call_name}
use Rattle.judge.specs.declared.verdict.CallFault.{CallFault}

-- the place where no set is named
abbrev pub zeros : List ℕ
zeros = replicate 32 0

-- what a check answers where the place has these bytes: 1 for a place that is not 32 bytes long
abbrev pub outcome : List Rule → Meaning → Interp → List ℕ → Checked
outcome rules m I place = elim (length place == 32) [ true ↦ checked rules m I | false ↦ fault 1 ]

-- each answer, with the place before and after
abbrev pub Told : Checked → List ℕ → List ℕ → Result Verdict CallFault → Type 0
Told c before after (Ok Stands) = (c ≡ answered J.stands) × (after ≡ zeros)
Told c before after (Ok (Broken n)) = (c ≡ answered (J.broken n)) × (after ≡ zeros)
Told c before after (Ok Unfounded) = (X : Interp) × (c ≡ answered (J.unfounded X)) × (after ≡ bytes_of X)
Told c before after (Err f) = (c ≡ fault (call_name f).number) × (after ≡ before)

-- the option of the definitions
abbrev pub as_option : Option ℕ → O.Option ℕ
as_option None = O.none
as_option (Some n) = O.some n

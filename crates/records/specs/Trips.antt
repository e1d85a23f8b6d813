-- A record and a run, read and written again: the bytes stay.
use Rattle.std.specs.Prelude.{◌≡◌, ℕ, cond, ◌⊎◌, List, length, Some, None, Ok, Err, Option, Result, ◌==◌, ◌≢◌}
use Rattle.records.specs.declared.fault.RecordFault.TheVariants.{Size}
use Rattle.records.specs.declared.fault.RecordFault.{RecordFault}
use Rattle.records.specs.declared.run_fault.RunFault.{RunFault}
use Rattle.records.specs.declared.run_fault.RunFault.TheVariants.{Memory, Run, Record}
use Rattle.records.specs.Faults.{fault_in}
use Rattle.records.specs.Runs.{count_of}

-- a place that does not have a record's length
abbrev pub size_fault : List ℕ → Option RecordFault
size_fault place = cond (length place == 48) None (Some Size)

-- the new bytes, or the old ones where there was a refusal
abbrev pub kept_if : {E : Type 0} → Result (Unit {0}) E → List ℕ → List ℕ → List ℕ
kept_if (Ok u) new old = new
kept_if (Err e) new old = old

-- an accepted run that is written again is the same bytes; the run's own fault comes before the place's; a refusal leaves the place as it was
abbrev pub Rewritten : (List ℕ → Option RecordFault) → List ℕ → List ℕ → List ℕ → Result (Unit {0}) RunFault → Type 0
Rewritten fault bs was now (Ok u) = (fault_in (count_of fault bs) ≡ None) × (now ≡ bs)
Rewritten fault bs was now (Err Memory) = now ≡ was
Rewritten fault bs was now (Err Run) = ((count_of fault bs ≡ Err Run) ⊎ ((fault_in (count_of fault bs) ≡ None) × (length was ≢ length bs))) × (now ≡ was)
Rewritten fault bs was now (Err (Record p)) = (count_of fault bs ≡ Err (Record p)) × (now ≡ was)

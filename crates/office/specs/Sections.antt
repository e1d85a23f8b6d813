-- The sections of a file as plain counts. Assumes nothing.
use Rattle.std.specs.Prelude.{Ok, Err, Result}
use Rattle.office.specs.Walk.{Counts}
use Rattle.office.specs.declared.sections.Sections.{Sections}

abbrev pub counts_of : Sections → Counts
counts_of s = record { tables = s.tables; sums = s.sums; weeks = s.weeks; rules = s.rules; plans = s.plans }

abbrev pub counted : {E : Type 0} → Result Sections E → Result Counts E
counted (Ok s) = Ok (counts_of s)
counted (Err e) = Err e

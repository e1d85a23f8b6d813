-- The faults of a call: layer, number and byte of each. Assumes nothing.
use Rattle.records.specs.declared.fault.Layer.TheVariants.{Call}
use Rattle.records.specs.declared.fault.Named.{Named}
use Rattle.judge.specs.declared.verdict.CallFault.{CallFault}
use Rattle.judge.specs.declared.verdict.CallFault.TheVariants.{Place, UnknownSource, Crowded}

abbrev pub call_name : CallFault → Named
call_name Place = record { layer = Call; number = 1; byte = 0 }
call_name UnknownSource = record { layer = Call; number = 10; byte = 0 }
call_name Crowded = record { layer = Call; number = 25; byte = 0 }

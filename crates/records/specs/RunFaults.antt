-- The faults of a file: layer, number and byte of each, and the place of the record that it is of.
use Rattle.std.specs.Prelude.{ℕ, Some, None, Option}
use Rattle.records.specs.declared.fault.Layer.TheVariants as layer
use Rattle.records.specs.declared.fault.Named.{Named}
use Rattle.records.specs.declared.run_fault.RunFault.{RunFault}
use Rattle.records.specs.declared.run_fault.RunFault.TheVariants.{Memory, Run, Record}
use Rattle.records.specs.Faults.{fault_name}

-- want of memory has no number
abbrev pub run_fault_name : RunFault → Option Named
run_fault_name Memory = None
run_fault_name Run = Some (record { layer = layer.File; number = 1; byte = 0 })
run_fault_name (Record p) = Some (fault_name p.fault)

-- a run's length is named at place 0
abbrev pub place_of : RunFault → ℕ
place_of Memory = 0
place_of Run = 0
place_of (Record p) = p.place

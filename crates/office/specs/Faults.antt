-- The faults of an office's file: layer, number and byte of each, and the place of the record that it is of. Assumes nothing.
use Rattle.std.specs.Prelude.{ℕ}
use Rattle.records.specs.Faults as records
use Rattle.records.specs.declared.fault.Layer.TheVariants.{File, Book}
use Rattle.records.specs.declared.fault.Named.{Named}
use Rattle.office.specs.declared.file_fault.Cause.{Cause}
use Rattle.office.specs.declared.file_fault.Cause.TheVariants as cause
use Rattle.office.specs.declared.file_fault.FileFault.{FileFault}
use Rattle.office.specs.declared.file_fault.FileFault.TheVariants as file

abbrev pub cause_name : Cause → Named
cause_name (cause.Record e) = records.fault_name e
cause_name cause.Order = record { layer = File; number = 11; byte = 0 }
cause_name cause.Sources = record { layer = File; number = 21; byte = 0 }
cause_name cause.Rules = record { layer = Book; number = 21; byte = 0 }

abbrev pub fault_name : FileFault → Named
fault_name file.Run = record { layer = File; number = 1; byte = 0 }
fault_name (file.Record place c) = cause_name c

abbrev pub place_of : FileFault → ℕ
place_of file.Run = 0
place_of (file.Record place c) = place

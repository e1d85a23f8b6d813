-- The faults of a rulebook: layer, number and byte of each. Assumes nothing.
use Rattle.std.specs.Prelude.{Some, None, Option}
use Rattle.records.specs.Faults.{fault_name}
use Rattle.records.specs.declared.fault.Layer.TheVariants.{Book}
use Rattle.records.specs.declared.fault.Named.{Named}
use Rattle.rulebook.specs.declared.book_fault.BookFault.{BookFault}
use Rattle.rulebook.specs.declared.book_fault.BookFault.TheVariants.{Memory, Record, Full}

-- want of memory has no number
abbrev pub book_name : BookFault → Option Named
book_name Memory = None
book_name (Record e) = Some (fault_name e)
book_name Full = Some (record { layer = Book; number = 21; byte = 0 })

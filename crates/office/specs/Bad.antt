-- Which file of an office is bad: house.ret first. Assumes nothing.
use Rattle.std.specs.Prelude.{ℕ, List, Some, None, Ok, Err, Option, Result}
use Rattle.lines.specs.declared.report.File.{File}
use Rattle.lines.specs.declared.report.File.TheVariants.{House, Site}
use Rattle.records.specs.declared.run_fault.RunFault.{RunFault}
use Rattle.records.specs.declared.run_fault.RunFault.TheVariants as run
use Rattle.rulebook.specs.declared.book_fault.BookFault.{BookFault}
use Rattle.rulebook.specs.declared.book_fault.BookFault.TheVariants as book
use Rattle.office.specs.declared.file_fault.Cause.TheVariants as cause
use Rattle.office.specs.declared.file_fault.FileFault.{FileFault}
use Rattle.office.specs.declared.file_fault.FileFault.TheVariants as file
use Rattle.office.specs.declared.office_fault.OfficeFault.{OfficeFault}
use Rattle.office.specs.declared.office_fault.OfficeFault.TheVariants.{Memory, Bad}
use Rattle.office.specs.Walk.{Counts, none, file_read}

-- the name of OfficeFault in clauses
abbrev pub Refusal : Type 0
Refusal = OfficeFault

-- the fault of a file
abbrev pub in_file : File → FileFault → OfficeFault
in_file f e = Bad f e

-- the fault of a run of one kind, and of a rule at a place of its run
abbrev pub of_run : File → RunFault → OfficeFault
of_run f run.Memory = Memory
of_run f run.Run = Bad f file.Run
of_run f (run.Record p) = Bad f (file.Record p.place (cause.Record p.fault))

abbrev pub of_book : File → ℕ → BookFault → OfficeFault
of_book f place book.Memory = Memory
of_book f place (book.Record e) = Bad f (file.Record place (cause.Record e))
of_book f place book.Full = Bad f (file.Record place cause.Rules)

abbrev pub bad_site : Result Counts FileFault → Option OfficeFault
bad_site (Ok c) = None
bad_site (Err e) = Some (Bad Site e)

-- the site file is numbered after the house file
abbrev pub bad_house : List ℕ → Result Counts FileFault → Option OfficeFault
bad_house site (Ok before) = bad_site (file_read Site before site)
bad_house site (Err e) = Some (Bad House e)

-- what is wrong with the two files, if anything is
abbrev pub bad_office : List ℕ → List ℕ → Option OfficeFault
bad_office house site = bad_house site (file_read House none house)

-- What is printed of an office's two files: a line for each plan, or the line of a bad file. Assumes nothing.
use Rattle.std.specs.Prelude.{◌≡◌, ℕ, ◌⊎◌, List, [], Some, None, Option, codes, vec_items}
use Rattle.std.specs.List.{flat_map}
use Rattle.semantics.specs.Program.{Meaning}
use Rattle.semantics.specs.Check.{checked}
use Rattle.plans.specs.Bits.{marked}
use Rattle.records.specs.declared.plan.Plan.{Plan}
use Rattle.oracles.specs.Joined.{joined}
use Rattle.record_oracles.specs.Listed.{run}
use Rattle.record_oracles.specs.Sums.{sum_truth}
use Rattle.record_oracles.specs.Tables.{table_truth}
use Rattle.record_oracles.specs.Weeks.{week_truth}
use Rattle.rulebook.specs.Rules.{rules_of}
use Rattle.lines.specs.Said.{line_bytes, said_of, bad_file}
use Rattle.office.specs.declared.office.Office.{Office}
use Rattle.lines.specs.declared.report.File.{File}
use Rattle.office.specs.declared.file_fault.FileFault.{FileFault}
use Rattle.office.specs.declared.office_fault.OfficeFault.{OfficeFault}
use Rattle.office.specs.declared.office_fault.OfficeFault.TheVariants.{Memory, Bad}
use Rattle.office.specs.declared.unprinted.Unprinted.{Unprinted}
use Rattle.office.specs.declared.unprinted.Unprinted.TheVariants as u
use Rattle.office.specs.Bad.{bad_office}
use Rattle.office.specs.Faults.{fault_name, place_of}
use Rattle.office.specs.Held.{FileOracle, OfficeHeld}

-- a file's sources: tables, then sums, then weeks
abbrev pub file_meaning : FileOracle → Meaning
file_meaning o = joined (run table_truth (vec_items o.first.sources)) (joined (run sum_truth (vec_items o.second.first.sources)) (run week_truth (vec_items o.second.second.sources)))

abbrev pub sources_of : Office → Meaning
sources_of o = joined (file_meaning o.oracle.first) (file_meaning o.oracle.second)

-- the line of a plan, as a check of the office's rules under its sources judges it
abbrev pub plan_line : Office → Plan → List ℕ
plan_line o p = line_bytes (said_of p.label (rules_of (vec_items o.book.rows)) (checked (rules_of (vec_items o.book.rows)) (sources_of o) (marked p.marks.bytes)))

abbrev pub plan_lines : Office → List ℕ
plan_lines o = flat_map (plan_line o) (vec_items o.plans)

-- want of memory has no line
abbrev pub refusal_line : OfficeFault → List ℕ
refusal_line Memory = []
refusal_line (Bad file fault) = line_bytes (bad_file file (fault_name fault).number (place_of fault) (fault_name fault).byte)

-- a bad pair of files has its refusal's line; else there are the lines of the plans that the files hold, or one file's refusal
pub record Printed (house site bs : List ℕ) : Type 0 where
  pub bad : (e : OfficeFault) → bad_office house site ≡ Some e → bs ≡ refusal_line e
  pub said : ((o : Office) × OfficeHeld house site o × (bs ≡ plan_lines o)) ⊎ ((f : File) × (x : FileFault) × (bs ≡ refusal_line (Bad f x)))

-- what is said where the lines are not printed: an output's fault has words of its own
abbrev pub unprinted_text : Unprinted → Option (List ℕ)
unprinted_text u.Memory = Some (codes "out of memory")
unprinted_text (u.Output e) = None

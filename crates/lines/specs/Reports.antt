-- What a report says. Assumes nothing.
use Rattle.plans.specs.Bits.{marked}
use Rattle.lines.specs.Said.{Said, stands, breaks, circle, refused, bad_file}
use Rattle.lines.specs.declared.report.Outcome.TheVariants.{Stands, Breaks, Circle, Refused}
use Rattle.lines.specs.declared.report.Report.{Report}
use Rattle.lines.specs.declared.report.Report.TheVariants.{Plan, BadFile}

abbrev pub said : Report → Said
said (Plan label Stands) = stands label
said (Plan label (Breaks rule)) = breaks label rule
said (Plan label (Circle atoms)) = circle label (marked atoms.bits)
said (Plan label (Refused named)) = refused label named.number
said (BadFile file place named) = bad_file file named.number place named.byte

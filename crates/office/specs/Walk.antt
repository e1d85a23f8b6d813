-- How a file is read, record by record. Assumes nothing.
use Rattle.std.specs.Prelude.{ℕ, zero, suc, ◌+◌, ◌/◌, Bool, true, false, cond, List, length, take, drop, Some, None, Ok, Err, Option, Result, ◌==◌, nat_lt}
use Rattle.semantics.specs.Program.{source_limit}
use Rattle.records.specs.Faults.{unless}
use Rattle.records.specs.Runs.{bad_run}
use Rattle.records.specs.declared.fault.RecordFault.{RecordFault}
use Rattle.sources.specs.Judged.{kind_of}
use Rattle.sources.specs.declared.kind.Kind.{Kind}
use Rattle.sources.specs.declared.kind.Kind.TheVariants.{Table, Sum, Week, Rule, Plan}
use Rattle.rulebook.specs.Books.{book_limit}
use Rattle.lines.specs.declared.report.File.{File}
use Rattle.lines.specs.declared.report.File.TheVariants.{House, Site}
use Rattle.office.specs.declared.file_fault.Cause.{Cause}
use Rattle.office.specs.declared.file_fault.Cause.TheVariants as cause
use Rattle.office.specs.declared.file_fault.FileFault.{FileFault}
use Rattle.office.specs.declared.file_fault.FileFault.TheVariants as file

-- how many records of each kind, as plain numbers
pub record Counts : Type 0 where
  pub tables : ℕ
  pub sums : ℕ
  pub weeks : ℕ
  pub rules : ℕ
  pub plans : ℕ

abbrev pub none : Counts
none = record { tables = 0; sums = 0; weeks = 0; rules = 0; plans = 0 }

abbrev pub sources_in : Counts → ℕ
sources_in c = c.tables + c.sums + c.weeks

abbrev pub total : Counts → ℕ
total c = c.tables + c.sums + c.weeks + c.rules + c.plans

-- tables stand first, then sums, weeks, rules and plans; only site.ret has plans
abbrev pub in_order : File → Counts → Kind → Bool
in_order f c Table = c.sums + c.weeks + c.rules + c.plans == 0
in_order f c Sum = c.weeks + c.rules + c.plans == 0
in_order f c Week = c.rules + c.plans == 0
in_order f c Rule = c.plans == 0
in_order House c Plan = false
in_order Site c Plan = true

-- why both files together have no room for one more
abbrev pub no_room : Counts → Counts → Kind → Option Cause
no_room b c Table = cond (nat_lt (sources_in b + sources_in c) source_limit) None (Some cause.Sources)
no_room b c Sum = cond (nat_lt (sources_in b + sources_in c) source_limit) None (Some cause.Sources)
no_room b c Week = cond (nat_lt (sources_in b + sources_in c) source_limit) None (Some cause.Sources)
no_room b c Rule = cond (nat_lt (b.rules + c.rules) book_limit) None (Some cause.Rules)
no_room b c Plan = None

abbrev pub one_more : Counts → Kind → Counts
one_more c Table = record { tables = c.tables + 1; sums = c.sums; weeks = c.weeks; rules = c.rules; plans = c.plans }
one_more c Sum = record { tables = c.tables; sums = c.sums + 1; weeks = c.weeks; rules = c.rules; plans = c.plans }
one_more c Week = record { tables = c.tables; sums = c.sums; weeks = c.weeks + 1; rules = c.rules; plans = c.plans }
one_more c Rule = record { tables = c.tables; sums = c.sums; weeks = c.weeks; rules = c.rules + 1; plans = c.plans }
one_more c Plan = record { tables = c.tables; sums = c.sums; weeks = c.weeks; rules = c.rules; plans = c.plans + 1 }

-- one record: its own rules first, then the order, then the room
abbrev pub stepped : File → Counts → Counts → Result Kind RecordFault → Result Counts Cause
stepped f b c (Err e) = Err (cause.Record e)
stepped f b c (Ok k) = cond (in_order f c k) (unless (no_room b c k) (one_more c k)) (Err cause.Order)

abbrev pub go_on : ℕ → Result Counts Cause → (Counts → Result Counts FileFault) → Result Counts FileFault
go_on place (Ok c) rest = rest c
go_on place (Err x) rest = Err (file.Record place x)

-- n records from a place on, after the records that are counted
unfoldable pub walked : File → Counts → ℕ → ℕ → Counts → List ℕ → Result Counts FileFault
walked f b zero place c bytes = Ok c
walked f b (suc n) place c bytes = go_on place (stepped f b c (kind_of (take 48 bytes))) (λ d. walked f b n (place + 1) d (drop 48 bytes))

-- a file, where the other file had b before it
abbrev pub file_read : File → Counts → List ℕ → Result Counts FileFault
file_read f b bytes = cond (bad_run bytes) (Err file.Run) (walked f b (length bytes / 48) 0 none bytes)

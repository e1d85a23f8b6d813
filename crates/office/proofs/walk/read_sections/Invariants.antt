use Rattle.std.proofs.Common.{◌≡◌, ◌-◌, ◌*◌, ◌/◌, drop, length}
use Rattle.office.specs.Sections.{counts_of}
use Rattle.office.specs.Walk.{none, total, walked}
use Rattle.office.proofs.walk.read_sections.Given as goal

abbrev pub invariant-loop-place : goal.invariant-loop-place
invariant-loop-place l =
    (total (counts_of l.sections) ≡ l.place-counter) ×
    (walked l.file (counts_of l.before) (length l.bytes / 48) 0 none l.bytes ≡ walked l.file (counts_of l.before) (length l.bytes / 48 - l.place-counter) l.place-counter (counts_of l.sections) (drop (48 * l.place-counter) l.bytes))

use Rattle.std.proofs.Common.{◌≡◌, ◌-◌, ◌*◌, ◌/◌, length, drop}
use Rattle.records.specs.Runs.{counted}
use Rattle.records.proofs.run.check_run.Given as goal

abbrev pub invariant-loop-place : goal.invariant-loop-place
invariant-loop-place g l = counted g.K.Record.fault (length l.bytes / 48 - l.place-counter) l.place-counter (drop (48 * l.place-counter) l.bytes) ≡ counted g.K.Record.fault (length l.bytes / 48) 0 l.bytes

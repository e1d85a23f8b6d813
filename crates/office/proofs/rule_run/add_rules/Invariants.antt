use Rattle.std.proofs.Common.{◌*◌, take, vec_items}
use Rattle.office.specs.Added.{AddedRun}
use Rattle.office.proofs.rule_run.add_rules.Given as goal

abbrev pub invariant-loop-place : goal.invariant-loop-place
invariant-loop-place l = AddedRun (take (48 * l.place-counter) l.runs.rules.now) (vec_items l.initial.book.rows) (vec_items l.book.rows)

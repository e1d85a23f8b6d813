use Rattle.std.proofs.Common.{◌≡◌, ◌*◌, take}
use Rattle.std.specs.List.{flat_map}
use Rattle.records.proofs.run.write_run.Given as goal

abbrev pub invariant-loop-i : goal.invariant-loop-i
invariant-loop-i g l = take (48 * l.i-counter) l.place ≡ flat_map g.K.Record.image (take l.i-counter l.values)

use Rattle.std.proofs.Common.{◌≡◌, ℕ, ◌*◌, ◌<◌, take, None, vec_items}
use Rattle.std.specs.List.{flat_map}
use Rattle.records.specs.Runs.{part}
use Rattle.records.proofs.run.read_run.Given as goal

abbrev pub invariant-loop-place : goal.invariant-loop-place
invariant-loop-place g l = (flat_map g.K.Record.image (vec_items l.out) ≡ take (48 * l.place-counter) l.bytes)
    × ((j : ℕ) → j < l.place-counter → g.K.Record.fault (part j l.bytes) ≡ None)

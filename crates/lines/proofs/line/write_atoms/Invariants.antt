use Rattle.std.proofs.Common.{◌≡◌, ◌+◌, ◌*◌, ◌≤◌, ◌++◌, map, length, decimal}
use Rattle.std.specs.List.{flat_map}
use Rattle.lines.specs.Said.{spaced}
use Rattle.lines.proofs.line.write_atoms.Given as goal

abbrev pub invariant-loop-atom : goal.invariant-loop-atom
invariant-loop-atom l = record {
  bytes : l.line.text.bytes ≡ l.initial.line.text.bytes ++ flat_map spaced (map decimal l.yielded);
  bound : length l.line.text.bytes ≤ length l.initial.line.text.bytes + 4 * length l.yielded;
}

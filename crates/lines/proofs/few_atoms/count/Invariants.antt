use Rattle.std.proofs.Common.{◌≡◌, ◌≤◌, length}
use Rattle.plans.specs.Bits.{marked}
use Rattle.lines.specs.Said.{members_below}
use Rattle.lines.proofs.few_atoms.count.Given as goal

abbrev pub invariant-loop-atom : goal.invariant-loop-atom
invariant-loop-atom l = (l.count ≡ length (members_below (marked l.bits) l.atom)) × (l.count ≤ l.atom)

use Rattle.std.proofs.Common.{◌≡◌, ◌+◌, ◌-◌, ◌*◌}
use Rattle.plans.specs.Bits.{bits_from}
use Rattle.plans.specs.Partial.{removed}
use Rattle.plans.proofs.removal.Removal.byte.Given as goal

abbrev pub invariant-loop-j : goal.invariant-loop-j
invariant-loop-j l = l.byte ≡ bits_from (removed l.self.plan.now l.self.stays.now) (8 * l.k + l.j) (8 - l.j)

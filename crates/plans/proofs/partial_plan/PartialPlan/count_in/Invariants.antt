use Rattle.std.proofs.Common.{◌≡◌, ◌≤◌}
use Rattle.semantics.specs.Check.{size_below}
use Rattle.plans.specs.Partial.{full}
use Rattle.plans.proofs.partial_plan.PartialPlan.count_in.Given as goal

abbrev pub invariant-loop-atom : goal.invariant-loop-atom
invariant-loop-atom l = (l.count ≤ l.atom) × (l.count ≡ size_below l.atom (full l.self))

use Rattle.std.proofs.Common.{◌≡◌, ◌+◌, ◌*◌, ◌^◌, ◌≤◌, drop}
use Rattle.record_oracles.specs.Inputs.{atoms_in}
use Rattle.record_oracles.specs.Sums.{weight_in}
use Rattle.record_oracles.proofs.sums.SumSourceAmount.amount.Given as goal

abbrev pub invariant-loop-t : goal.invariant-loop-t
invariant-loop-t l =
    (l.sum + weight_in (atoms_in l.plan) (drop l.t-index l.terms) ≡ weight_in (atoms_in l.plan) l.terms)
    × (l.sum ≤ l.t-index * 2 ^ 32)

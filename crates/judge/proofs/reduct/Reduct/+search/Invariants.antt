use Rattle.semantics.specs.Program.{atom_limit}
use Rattle.plans.specs.Partial.{open_below}
use Rattle.judge.proofs.reduct.Reduct.+search.Given as goal

abbrev pub decreases-search : goal.decreases-search
decreases-search g l = open_below atom_limit l.rest.now

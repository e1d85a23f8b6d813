use Rattle.semantics.proofs.Checks.{named_few}
use Rattle.semantics.proofs.named_sets_are_few.Goals as goal

pub returns : goal.returns
returns c = named_few

use mathlib.Core.Path.{refl}
use Rattle.semantics.specs.Check.{checked, search_limit, size_below}
use Rattle.semantics.proofs.crowded_checked.Goals as goal

pub returns : goal.returns
unfolding checked search_limit size_below
returns c = record { too_many = refl; broken_first = refl; no_such_source = refl }

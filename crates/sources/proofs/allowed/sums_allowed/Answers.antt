use Rattle.sources.proofs.Unused.{terms_allowed}
use Rattle.sources.proofs.allowed.sums_allowed.Goals as goal

pub returns : goal.returns
returns c = λ s. record {
  places = s.terms_long;
  terms = terms_allowed _ _ s.inputs_ok s.weights_small s.unused_ok;
  bound = s.small;
}

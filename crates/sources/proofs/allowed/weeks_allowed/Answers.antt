use Rattle.sources.proofs.Unused.{terms_allowed}
use Rattle.sources.proofs.allowed.weeks_allowed.Goals as goal

pub returns : goal.returns
returns c = λ s. record {
  places = s.terms_long;
  terms = terms_allowed _ _ s.inputs_ok s.days_small s.unused_ok;
  some = s.wanted_ok.0;
  most = s.wanted_ok.1;
  first = s.first_ok;
}

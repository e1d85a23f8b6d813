use Rattle.records.proofs.Ascending.{ascending}
use Rattle.sources.proofs.Unused.{bits_unused}
use Rattle.sources.proofs.allowed.tables_allowed.Goals as goal

pub returns : goal.returns
returns c = λ s. record {
  places = s.inputs_long;
  inputs = ascending s.inputs s.inputs_ok;
  bytes = s.bits_long;
  unused = bits_unused s.inputs s.bits s.unused_ok;
}

use Rattle.std.proofs.Common.{arith}
use Rattle.records.proofs.Ascending.{ascending}
use Rattle.records.proofs.LiteralPlaces.{literals_first, some_first}
use Rattle.records.proofs.rule_record.rules_allowed.Goals as goal

pub returns : goal.returns
returns c = λ r. record {
  places = r.head_long;
  head = ascending r.head r.head_ok;
  sixteen = r.body_long;
  body = literals_first r.body r.body_ok;
  filled = some_first _ r.body (omega arith) r.filled;
  label = r.small;
}

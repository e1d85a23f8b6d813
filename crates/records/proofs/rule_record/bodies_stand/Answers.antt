use Rattle.records.proofs.Places.{places_from}
use Rattle.records.proofs.rule_record.bodies_stand.Goals as goal

pub returns : goal.returns
returns c = λ r. places_from r.body r.body_ok

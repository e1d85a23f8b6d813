use Rattle.records.proofs.LiteralPlaces.{literals_first, literals_back}
use Rattle.records.proofs.rule_record.literals_stand.Goals as goal

pub returns : goal.returns
returns c = λ ps. (literals_first ps, literals_back ps)

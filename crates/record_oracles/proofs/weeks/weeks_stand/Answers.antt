use Rattle.record_oracles.proofs.Calendar.{weeks_counted}
use Rattle.record_oracles.proofs.weeks.weeks_stand.Goals as goal

pub returns : goal.returns
returns c = weeks_counted

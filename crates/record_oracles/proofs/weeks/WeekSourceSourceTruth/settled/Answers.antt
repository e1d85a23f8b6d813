use Rattle.record_oracles.proofs.Calendar.{weeks_grow}
use Rattle.record_oracles.proofs.weeks.WeekSourceSourceTruth.settled.Goals as goal

pub reaches-requires : goal.reaches-requires
reaches-requires c = weeks_grow c.args.self.now.first c.args.self.now.terms

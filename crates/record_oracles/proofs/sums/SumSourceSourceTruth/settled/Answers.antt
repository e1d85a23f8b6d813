use Rattle.record_oracles.proofs.Weights.{weight_grows}
use Rattle.record_oracles.proofs.sums.SumSourceSourceTruth.settled.Goals as goal

pub reaches-requires : goal.reaches-requires
reaches-requires c = weight_grows c.args.self.now.terms

use Rattle.std.proofs.Common.{arith}
use Rattle.record_oracles.proofs.Bounds.{differs_between}
use Rattle.record_oracles.proofs.amounts.reaches.Goals as goal

pub returns-else-high-bound : goal.returns-else-high-bound
returns-else-high-bound g c = differs_between (g.S.Amount.amount_in c.args.source.now) c.requires c.args.bound c.args.plan.now (omega (arith, c.amount-low.ensures)) (omega (arith, c.amount-high.ensures))

use Rattle.std.proofs.Common.{true, false}
use Rattle.record_oracles.proofs.Spelled.{settles_other, settles_none}
use Rattle.record_oracles.proofs.tables.TableSourceSourceTruth.settled.Goals as goal

pub returns-then-not-can_be : goal.returns-then-not-can_be
returns-then-not-can_be c = settles_other c.args.self.now c.args.plan.now true c.if-not-can_be.ensures

pub returns-then-can_be : goal.returns-then-can_be
returns-then-can_be c = settles_none c.args.self.now c.args.plan.now c.if-not-can_be.ensures c.if-can_be.ensures

pub returns-else-can_be : goal.returns-else-can_be
returns-else-can_be c = settles_other c.args.self.now c.args.plan.now false c.if-can_be.ensures

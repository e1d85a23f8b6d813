use Rattle.std.proofs.Common.{length}
use Rattle.judge.specs.Ways.{Leaves, HeadIn, Meets, Known}
use Rattle.judge.proofs.truth.View.ways.Given as goal

abbrev pub invariant-loop-a : goal.invariant-loop-a
invariant-loop-a g l = Leaves l.self.plan.now (HeadIn l.row.head l.a-index) (Known (g.O.Oracle.meaning l.self.oracle.now) l.row.body) l.left

abbrev pub invariant-loop-t : goal.invariant-loop-t
invariant-loop-t g l = Leaves l.self.plan.now (Meets (g.O.Oracle.meaning l.self.oracle.now) l.row (length l.row.head) l.t-index) (Known (g.O.Oracle.meaning l.self.oracle.now) l.row.body) l.left

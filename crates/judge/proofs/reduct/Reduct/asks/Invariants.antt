use Rattle.std.proofs.Common.{length}
use Rattle.semantics.specs.Program.{Interp}
use Rattle.plans.specs.Partial.{Decided, Within}
use Rattle.judge.specs.Search.{SatAll, KnownAll}
use Rattle.judge.proofs.reduct.Reduct.asks.Given as goal

abbrev pub invariant-loop-row : goal.invariant-loop-row
invariant-loop-row g l =
    let m = g.O.Oracle.meaning l.self.oracle.now in
    KnownAll m l.self.rows.now → Decided l.rest → (K : Interp) → Within l.rest K → SatAll m l.self.rows.now l.self.live (length l.yielded) K

use Rattle.std.proofs.Common.{◌+◌, ap, arith, rules}
use Rattle.std.proofs.lemmas.Nat.{one_shl}
use Rattle.record_oracles.proofs.Spelled.{end_step, in_step, out_step, open_first, open_second}
use Rattle.record_oracles.proofs.tables.BitSearch.+finds.Goals as goal

pub returns-then-place-eq8 : goal.returns-then-place-eq8
returns-then-place-eq8 t c =
    let s = c.args.self.now in
    end_step s.source.now s.plan.now c.args.place c.args.index s.bit c.bit_in.result (search rules) c.bit_in.ensures

pub returns-in-Out : goal.returns-in-Out
returns-in-Out t c =
    let s = c.args.self.now in
    out_step s.source.now s.plan.now c.args.place c.args.index s.bit (search rules) c.in-Out.ensures c.finds.result c.finds.ensures

pub returns-in-In : goal.returns-in-In
returns-in-In t c =
    let s = c.args.self.now in
    in_step s.source.now s.plan.now c.args.place c.args.index s.bit (search rules) c.in-In.ensures _ (ap (λ n. c.args.index + n) (one_shl c.args.place 64 (omega arith))) c.finds-in-In.result c.finds-in-In.ensures

pub returns-then-finds : goal.returns-then-finds
returns-then-finds t c =
    let s = c.args.self.now in
    open_first s.source.now s.plan.now c.args.place c.args.index s.bit (search rules) c.in-Open.ensures c.finds-in-Open.result c.if-finds.true c.finds-in-Open.ensures

pub returns-else-finds : goal.returns-else-finds
returns-else-finds t c =
    let s = c.args.self.now in
    open_second s.source.now s.plan.now c.args.place c.args.index s.bit (search rules) c.in-Open.ensures c.if-finds.ensures _ (ap (λ n. c.args.index + n) (one_shl c.args.place 64 (omega arith))) c.finds-else-finds.result c.finds-else-finds.ensures

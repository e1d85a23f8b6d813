use Rattle.std.proofs.Common.{◌≡◌, cond, vec_items, rules, arith}
use Rattle.std.specs.Option.{option_map_or}
use Rattle.oracles.specs.declared.oracle.Reply.TheVariants.{Yes, No, Open}
use Rattle.record_oracles.specs.Listed.{run}
use Rattle.record_oracles.proofs.Replies.{settles_at, replied}
use Rattle.record_oracles.proofs.record_oracle.RecordOracleOracle.consult.Goals as goal

pub returns : goal.returns
returns g c =
    let truth = g.S.SourceTruth.truth in
    let sources = vec_items c.args.self.now.sources in
    let here = settles_at truth sources c.args.number _ c.args.plan.now c.settled.result (omega arith) c.index.ensures c.settled.ensures in
    let told : c.from.result ≡ option_map_or (λ b. cond b Yes No) c.settled.result Open = search rules in
    let both = replied (run truth sources) c.args.number c.args.plan.now (omega arith) c.settled.result here c.from.result told in
    record { answers = both.0; sharp = both.1 }

use Rattle.std.proofs.Common.{◌<◌, true, false, length, sym, ◌∙◌, arith, rules}
use Rattle.record_oracles.proofs.Weights.{weight_more}
use Rattle.record_oracles.proofs.sums.SumSourceAmount.amount.Goals as goal
use Rattle.record_oracles.proofs.sums.SumSourceAmount.amount.Goals.{then-has, else-has}

pub loop-t-preserved : goal.loop-t-preserved
loop-t-preserved c =
    let more = weight_more c.args.plan.open_in c.args.plan.plan.now c.args.self.now.terms c.loop-t.t-index in
    let within : c.loop-t.t-index < length c.args.self.now.terms = search rules in
    elim c.if-has.branch [
      | then-has w ↦
          let here = more _ true within (sym w.if-has.true ∙ c.has.ensures) in
          (omega arith, omega arith)
      | else-has w ↦
          let here = more _ false within (sym w.if-has.false ∙ c.has.ensures) in
          (omega arith, omega arith)
    ]

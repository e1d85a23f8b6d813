use Rattle.records.proofs.Judging.{runs_judged}
use Rattle.records.proofs.run.runs_judged.Goals as goal

pub returns : goal.returns
returns c = runs_judged

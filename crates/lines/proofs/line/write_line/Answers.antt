use Rattle.std.proofs.Common.{rules}
use Rattle.std.proofs.lemmas.Bool.{eq-eqb, cond-true}
use Rattle.std.proofs.lemmas.List.{drop-replicate}
use Rattle.lines.proofs.line.write_line.Goals as goal

pub returns : goal.returns
returns c = search (rules, eq-eqb, cond-true, drop-replicate)

use Rattle.std.proofs.Common.{rules, tests, ◌∙◌}
use Rattle.std.proofs.lemmas.Iterator.{YieldsList-from_slice}
use Rattle.std.proofs.lemmas.Iterator.Search.{any_from_yields_List}
use Rattle.record_oracles.proofs.Calendar.{falls, some_falls}
use Rattle.record_oracles.proofs.weeks.falls_in.Goals as goal

pub returns : goal.returns
returns c =
    let p = c.args.plan in
    let first = c.args.source.now.first in
    any_from_yields_List (falls p.open_in p.plan.now first c.args.week) _ _ c.any.result c.any.ensures.ran (YieldsList-from_slice c.args.terms.now cc) (λ x r q k. search (rules, tests))
    ∙ some_falls p.open_in p.plan.now first c.args.week c.args.terms.now

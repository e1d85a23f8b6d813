use Rattle.std.proofs.Common.{rules, tests, ◌+◌, ◌∙◌}
use Rattle.std.proofs.lemmas.List.{take_rest}
use Rattle.std.proofs.lemmas.Iterator.{YieldsList-from_slice}
use Rattle.std.proofs.lemmas.Iterator.Consumers.{YieldsList-at, YieldsList-from_enumerate, YieldsList-from_filter, count_from_yields_List}
use Rattle.record_oracles.proofs.Calendar.{is_last, lasts_counted}
use Rattle.record_oracles.proofs.weeks.WeekSourceAmount.amount.Goals as goal

pub returns : goal.returns
returns c =
    let p = c.args.plan in
    let first = c.args.self.now.first in
    let ts = c.args.self.now.terms in
    count_from_yields_List c.filter.result _ c.count.ensures.ran (YieldsList-from_filter _ (is_last p.open_in p.plan.now first ts) (YieldsList-at c.filter.ensures.source (YieldsList-from_enumerate (YieldsList-from_slice ts cc) cc)) c.filter.ensures.closure (λ x r q k. search (rules, tests, take_rest ts (x.0 + 1))))
    ∙ lasts_counted p.open_in p.plan.now first ts

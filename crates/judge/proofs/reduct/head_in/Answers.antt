use Rattle.std.proofs.Common.{rules, ◌∙◌}
use borrow.Author.Tests.{tests}
use Rattle.std.proofs.lemmas.Iterator.{YieldsList-from_slice}
use Rattle.std.proofs.lemmas.Iterator.Search.{any_from_yields_List}
use Rattle.plans.specs.Partial.{full}
use Rattle.plans.proofs.Partial.{full_within}
use Rattle.judge.proofs.Rows.{head_any}
use Rattle.judge.proofs.reduct.head_in.Goals as goal

pub returns : goal.returns
returns c =
    let p = c.args.plan.now in
    any_from_yields_List (full p) _ _ _ c.any.ensures.ran (YieldsList-from_slice c.args.head.now c.iter.ensures.rest) (λ x b q k. search (rules, tests))
    ∙ head_any (full p) (full_within p).small c.args.head.now

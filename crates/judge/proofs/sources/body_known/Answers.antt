use Rattle.std.proofs.Common.{rules, sym, ◌∙◌}
use borrow.Author.Tests.{tests}
use Rattle.std.proofs.lemmas.Iterator.{YieldsList-from_slice}
use Rattle.std.proofs.lemmas.Iterator.Search.{all_from_yields_List}
use Rattle.rulebook.specs.Rules.{place_known}
use Rattle.judge.proofs.Rows.{known_all}
use Rattle.judge.proofs.sources.body_known.Goals as goal

pub returns : goal.returns
returns g c =
    let m = g.O.Oracle.meaning c.args.oracle.now in
    let count = sym c.count-count.ensures in
    all_from_yields_List (place_known m) _ _ _ c.all.ensures.ran (YieldsList-from_slice c.args.body.now c.iter.ensures.rest) (λ x b q k. search (rules, tests))
    ∙ known_all m c.args.body.now

use Rattle.std.proofs.Common.{rules, eqb, ◌∙◌}
use borrow.Author.Tests.{tests}
use Rattle.std.proofs.lemmas.Iterator.{YieldsList-from_slice}
use Rattle.std.proofs.lemmas.Iterator.Search.{all_from_yields_List}
use Rattle.records.proofs.Counting.{all_are_all}
use Rattle.records.proofs.fault.all_are.Goals as goal

pub returns : goal.returns
returns c =
    let all = all_from_yields_List (λ x. eqb x c.args.b) _ _ c.all.result c.all.ensures.ran (YieldsList-from_slice c.args.bytes.now cc) (λ x b q k. search (rules, tests)) in
    all ∙ all_are_all c.args.b c.args.bytes.now

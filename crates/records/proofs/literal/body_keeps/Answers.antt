use Rattle.std.proofs.Common.{◌≡◌, ◌/◌, length, drop, rules, ◌∙◌, ap, arith}
use borrow.Author.Tests.{tests}
use Rattle.std.proofs.lemmas.Iterator.{YieldsList-from_slice}
use Rattle.std.proofs.lemmas.Iterator.Adapters.{YieldsList-from_skip_while}
use Rattle.std.proofs.lemmas.Iterator.Search.{all_from_yields_List}
use Rattle.std.specs.List.{list_all, prefix_len}
use Rattle.std.specs.Simd.{first_chunks}
use Rattle.records.specs.Faults.{all_are}
use Rattle.records.proofs.Bodies.{written, pairs_keep}
use Rattle.records.proofs.literal.body_keeps.Goals as goal

pub returns : goal.returns
returns c =
    let bs = c.args.bytes.now in
    let pairs = c.as_chunks.result.0.now in
    let all = all_from_yields_List (all_are 0) _ _ c.all.result c.all.ensures.ran (YieldsList-from_skip_while _ (λ y. y.now) _ written _ (λ x b q k. search (rules, tests)) (YieldsList-from_slice pairs cc) c.skip_while.ensures.closure c.skip_while.ensures.done_skipping) (λ x b q k. search (rules, tests)) in
    let sixteen : length bs / 2 ≡ 16 = omega arith in
    let cut = c.as_chunks.ensures.front ∙ ap (λ n. first_chunks 2 n bs) sixteen in
    all ∙ ap (λ ps. list_all (all_are 0) (drop (prefix_len written ps) ps)) cut ∙ pairs_keep 16 bs (omega arith)

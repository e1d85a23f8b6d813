use Rattle.std.proofs.Common.{rules, ◌∙◌}
use borrow.Author.Tests.{tests}
use Rattle.std.proofs.lemmas.Iterator.{YieldsList-from_slice}
use Rattle.std.proofs.lemmas.Iterator.Search.{all_from_yields_List}
use Rattle.semantics.specs.Program.{all}
use Rattle.semantics.specs.Check.{literal_known}
use Rattle.records.specs.declared.row.RuleRow.{RuleRow}
use Rattle.rulebook.specs.Rules.{body_of}
use Rattle.judge.proofs.Rows.{rows_all}
use Rattle.judge.proofs.sources.rules_known.Goals as goal

pub returns : goal.returns
returns g c =
    let m = g.O.Oracle.meaning c.args.oracle.now in
    all_from_yields_List (λ (row : RuleRow). all (literal_known m) (body_of row.body)) _ _ _ c.all.ensures.ran (YieldsList-from_slice c.args.rows.now c.iter.ensures.rest) (λ x b q k. search (rules, tests))
    ∙ rows_all m c.args.rows.now

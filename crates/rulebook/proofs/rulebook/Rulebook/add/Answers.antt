use Rattle.std.proofs.Common.{[], ◌∷◌, ◌++◌, vec_items, ap, ◌∙◌, arith}
use Rattle.records.specs.declared.row.RuleRow.{RuleRow}
use Rattle.rulebook.proofs.rulebook.Rulebook.add.Goals as goal

pub returns : goal.returns
returns c =
    let rows = c.args.self.now.rows in
    (omega (arith, rows.ok.0, c.len.ensures, c.if-len-ge-BOOK_LIMIT.false), (c.in_ok-rule.rule, c.in_ok-rule.ensures.value, c.in_ok-push.ensures.items ∙ ap (λ (row : RuleRow). vec_items rows ++ row ∷ []) c.from.ensures))

use Rattle.std.proofs.Common.{rules}
use borrow.Author.Tests.{tests}
use Rattle.std.proofs.lemmas.List.Sorted.{answers_always}
use Rattle.records.proofs.Ascending.{next_above, ascends_answer}
use Rattle.records.proofs.atoms.atoms_ascend.Goals as goal

pub returns : goal.returns
returns c = ascends_answer c.args.list.now (λ k. let f = c.type_inv.list k in search rules) _ (c.is_sorted_by.ensures.cases next_above (answers_always _ _ _ (λ f a r g k. search (rules, tests))))

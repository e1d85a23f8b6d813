use Rattle.std.proofs.Common.{◌≡◌, rules, ltb, ◌∙◌}
use Rattle.std.specs.List.{count_by}
use Rattle.records.proofs.Counting.{used_count}
use Rattle.records.proofs.atoms.used_places.Goals as goal

pub returns-clause-count : goal.returns-clause-count
returns-clause-count c =
    let count : c.count.result ≡ count_by (λ x. ltb x 255) c.args.list.now = search rules in
    let used = count ∙ used_count c.args.list.now in
    search rules

use Rattle.std.proofs.Common.{◌≡◌, ◌*◌, ◌/◌, ap, sym, ◌∙◌, arith, rules, map, length, []}
use Rattle.std.proofs.lemmas.List.Folds.{flat_map-map}
use Rattle.std.specs.List.{flat_map}
use Rattle.records.specs.Numbers.{le4}
use Rattle.sources.proofs.Arrays.{filled, fours_joined}
use Rattle.sources.proofs.numbers.read_numbers.Goals as goal

pub returns-clause-bytes : goal.returns-clause-bytes
returns-clause-bytes c =
    let bs = c.args.body.now in
    let long : length bs ≡ 4 * (length bs / 4) = omega (arith, c.told-body) in
    let is : map le4 c.from_fn.result ≡ c.as_chunks.result.0.now = filled le4 _ _ _ _ 8 c.from_fn.ensures.items (search rules) [] (λ q i y lt e. search rules) in
    sym (flat_map-map (λ x. x) le4 c.from_fn.result) ∙ ap (flat_map (λ x. x)) (is ∙ c.as_chunks.ensures.front) ∙ fours_joined _ bs long

use Rattle.std.proofs.Common.{[], rules, ap, ◌∙◌, arith}
use Rattle.std.proofs.lemmas.List.Folds.{flat_map-map}
use Rattle.std.specs.List.{flat_map}
use Rattle.records.specs.Numbers.{le4}
use Rattle.records.proofs.Bodies.{mapped}
use Rattle.sources.proofs.numbers.write_numbers.Goals as goal

pub returns : goal.returns
returns c =
    let made = c.map-parts.ensures.items in
    let parts = mapped le4 c.args.numbers.now c.map-parts.result 0 [] (omega (arith, made.long)) (λ i lt. let k = (made.at i 0 [] (omega arith)).2.met in search rules) in
    let whole = rw c.unwrap.ensures at c.as_array.ensures.cases in
    whole.same ∙ c.as_flattened.ensures.value ∙ ap (flat_map (λ x. x)) parts ∙ flat_map-map (λ x. x) le4 c.args.numbers.now

use Rattle.std.proofs.Common.{[], None, rules, ap, ◌∙◌, arith}
use Rattle.std.proofs.lemmas.List.Folds.{flat_map-map}
use Rattle.std.specs.List.{flat_map}
use Rattle.records.specs.Literals.{pair_of}
use Rattle.records.proofs.Bodies.{mapped}
use Rattle.records.proofs.literal.body_bytes.Goals as goal

pub returns : goal.returns
returns c =
    let made = c.map-pairs.ensures.items in
    let pairs = mapped pair_of c.args.body.now c.map-pairs.result None [] (omega (arith, made.long)) (λ i lt. let k = (made.at i None [] (omega arith)).2.met in search rules) in
    let whole = rw c.unwrap.ensures at c.as_array.ensures.cases in
    whole.same ∙ c.as_flattened.ensures.value ∙ ap (flat_map (λ x. x)) pairs ∙ flat_map-map (λ x. x) pair_of c.args.body.now

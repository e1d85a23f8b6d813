use Rattle.std.proofs.Common.{◌≡◌, map, ap, sym, subst, ◌∙◌, ◌<◌, ◌^◌, slice_index, rules}
use Rattle.std.specs.List.{flat_map}
use Rattle.records.specs.Numbers.{le4}
use Rattle.sources.proofs.Arrays.{filled}
use Rattle.sources.proofs.week_record.dated.Goals as goal

pub returns : goal.returns
returns c =
    let numbers : map (λ t. t.day) c.from_fn.result ≡ c.read_numbers-numbers.result = filled (λ t. t.day) _ _ _ _ 8 c.from_fn.ensures.items (search rules) 0 (λ q i y lt e. search rules) in
    record {
      atoms = filled (λ t. t.atom) _ _ _ _ 8 c.from_fn.ensures.items (search rules) 0 (λ q i y lt e. search rules);
      body = ap (flat_map le4) numbers ∙ c.read_numbers-numbers.ensures.bytes;
      small = λ k. subst (λ ns. slice_index ns k < 2 ^ 32) (sym numbers) (c.read_numbers-numbers.ensures.small k);
    }

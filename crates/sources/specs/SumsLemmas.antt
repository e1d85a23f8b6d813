-- Sum records keep the laws of a kind.
use Rattle.std.specs.Prelude.{◌≡◌, ℕ, ◌^◌, ◌<◌, true, map, length, None, slice_index, refl}
use Rattle.std.proofs.Common.{◌∙◌, ap}
use Rattle.std.proofs.Math.Bool.{Bool-set}
use mathlib.Core.HLevel.{is_prop→PathP, Π_prop}
use Rattle.std.proofs.Math.Bridge.{le_prop}
use Rattle.std.proofs.Math.Nat.{ℕ_set}
use Rattle.std.proofs.lemmas.List.{length-map}
use Rattle.std.specs.List.{flat_map}
use Rattle.records.specs.Atoms.{ascends}
use Rattle.records.specs.Numbers.{le4}
use Rattle.records.specs.Bytes.{le4_single}
use Rattle.records.specs.FramesLemmas.{Long, frame_size, frame_single}
use Rattle.records.specs.Decoding.{clean_by}
use Rattle.sources.specs.declared.sum_source.Weighted.{Weighted}
use Rattle.sources.specs.declared.sum_source.SumSource.{SumSource}
use Rattle.sources.specs.Spare.{spare_numbers}
use Rattle.sources.specs.Sums.{sum_fields, sum_image, sum_tests, sum_fault}
use Rattle.sources.specs.TermsLemmas.{terms_single, numbers_single, numbers_long}

pub sum_long : (s : SumSource) → Long (sum_fields s)
sum_long s = record {
  atoms = length-map s.terms _ ∙ s.terms_long;
  body = numbers_long _ (length-map s.terms _ ∙ s.terms_long);
  tail = refl;
}

pub sum_size : (s : SumSource) → length (sum_image s) ≡ 48
sum_size s = frame_size 83 87 (sum_fields s) (sum_long s)

pub sum_clean : (s : SumSource) → sum_fault (sum_image s) ≡ None
sum_clean s = clean_by 83 87 sum_tests (sum_fields s) (sum_long s) (rw (s.inputs_ok, s.unused_ok))

same_terms : (s t : Weighted) → s.atom ≡ t.atom → s.weight ≡ t.weight → s ≡ t
same_terms s t a b j = record { atom = a j; weight = b j }

pub sum_single : (s t : SumSource) → sum_image s ≡ sum_image t → s ≡ t
sum_single s t e =
    let f = frame_single 83 87 (sum_fields s) (sum_fields t) (sum_long s) (sum_long t) e in
    let n = numbers_single _ _ s.weights_small t.weights_small (ap (λ g. g.body) f) in
    let a = terms_single (λ u. u.atom) (λ u. u.weight) same_terms s.terms t.terms (ap (λ g. g.atoms) f) n in
    let b = le4_single _ _ s.small t.small (ap (λ g. g.tail) f) in
    λ j. record {
      terms = a j;
      bound = b j;
      terms_long = is_prop→PathP (λ k. length (a k) ≡ 8) (λ k. ℕ_set _ _) s.terms_long t.terms_long j;
      inputs_ok = is_prop→PathP (λ k. ascends 0 (map (λ u. u.atom) (a k)) ≡ true) (λ k. Bool-set _ _) s.inputs_ok t.inputs_ok j;
      unused_ok = is_prop→PathP (λ k. spare_numbers (map (λ u. u.atom) (a k)) (flat_map le4 (map (λ u. u.weight) (a k))) ≡ true) (λ k. Bool-set _ _) s.unused_ok t.unused_ok j;
      weights_small = is_prop→PathP (λ k. (i : ℕ) → slice_index (map (λ u. u.weight) (a k)) i < 2 ^ 32) (λ k. Π_prop (λ i. le_prop)) s.weights_small t.weights_small j;
      small = is_prop→PathP (λ k. b k < 2 ^ 32) (λ k. le_prop) s.small t.small j;
    }

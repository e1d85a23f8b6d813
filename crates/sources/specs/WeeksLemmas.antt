-- Week records keep the laws of a kind.
use Rattle.std.specs.Prelude.{◌≡◌, ℕ, ◌^◌, ◌<◌, ◌≤◌, true, ◌&&◌, List, [], ◌∷◌, map, length, drop, replicate, None, nat_le, nat_lt, slice_index, slice_index_or, refl}
use Rattle.std.proofs.Common.{◌∙◌, ap, length-drop, arith}
use Rattle.std.proofs.Math.Bool.{Bool-set}
use mathlib.Core.HLevel.{is_prop→PathP, Π_prop, ×_prop}
use Rattle.std.proofs.Math.Bridge.{le_prop}
use Rattle.std.proofs.Math.Nat.{ℕ_set}
use Rattle.std.proofs.lemmas.List.{length-map, get_or-drop}
use Rattle.std.proofs.lemmas.Bool.{lt-ltb, le-leb, and_parts}
use Rattle.std.specs.List.{flat_map}
use Rattle.records.specs.Atoms.{ascends}
use Rattle.records.specs.Faults.{all_are}
use Rattle.records.specs.Numbers.{le4}
use Rattle.records.specs.Bytes.{four, replicated_at}
use Rattle.records.specs.FramesLemmas.{Long, frame_size, frame_single}
use Rattle.records.specs.Decoding.{clean_by}
use Rattle.sources.specs.declared.week_source.Dated.{Dated}
use Rattle.sources.specs.declared.week_source.WeekSource.{WeekSource}
use Rattle.sources.specs.Spare.{spare_numbers}
use Rattle.sources.specs.Weeks.{week_fields, week_image, week_tail, week_tests, week_fault}
use Rattle.sources.specs.TermsLemmas.{terms_single, numbers_single, numbers_long}

pub week_long : (s : WeekSource) → Long (week_fields s)
week_long s = record {
  atoms = length-map s.terms _ ∙ s.terms_long;
  body = numbers_long _ (length-map s.terms _ ∙ s.terms_long);
  tail = refl;
}

pub week_size : (s : WeekSource) → length (week_image s) ≡ 48
week_size s = frame_size 83 75 (week_fields s) (week_long s)

pub week_clean : (s : WeekSource) → week_fault (week_image s) ≡ None
week_clean s = clean_by 83 75 week_tests (week_fields s) (week_long s)
    (rw (s.inputs_ok, s.unused_ok, lt-ltb _ _ s.wanted_ok.0, le-leb _ _ s.wanted_ok.1, lt-ltb _ _ s.first_ok))

same_terms : (s t : Dated) → s.atom ≡ t.atom → s.day ≡ t.day → s ≡ t
same_terms s t a b j = record { atom = a j; day = b j }

pub week_single : (s t : WeekSource) → week_image s ≡ week_image t → s ≡ t
week_single s t e =
    let f = frame_single 83 75 (week_fields s) (week_fields t) (week_long s) (week_long t) e in
    let n = numbers_single _ _ s.days_small t.days_small (ap (λ g. g.body) f) in
    let a = terms_single (λ u. u.atom) (λ u. u.day) same_terms s.terms t.terms (ap (λ g. g.atoms) f) n in
    let b : s.wanted ≡ t.wanted = ap (λ g. slice_index g.tail 0) f in
    let d : s.first ≡ t.first = ap (λ g. slice_index g.tail 1) f in
    λ j. record {
      terms = a j;
      wanted = b j;
      first = d j;
      terms_long = is_prop→PathP (λ k. length (a k) ≡ 8) (λ k. ℕ_set _ _) s.terms_long t.terms_long j;
      inputs_ok = is_prop→PathP (λ k. ascends 0 (map (λ u. u.atom) (a k)) ≡ true) (λ k. Bool-set _ _) s.inputs_ok t.inputs_ok j;
      unused_ok = is_prop→PathP (λ k. spare_numbers (map (λ u. u.atom) (a k)) (flat_map le4 (map (λ u. u.day) (a k))) ≡ true) (λ k. Bool-set _ _) s.unused_ok t.unused_ok j;
      days_small = is_prop→PathP (λ k. (i : ℕ) → slice_index (map (λ u. u.day) (a k)) i < 2 ^ 32) (λ k. Π_prop (λ i. le_prop)) s.days_small t.days_small j;
      wanted_ok = is_prop→PathP (λ k. (0 < b k) × (b k ≤ 8)) (λ k. ×_prop le_prop le_prop) s.wanted_ok t.wanted_ok j;
      first_ok = is_prop→PathP (λ k. d k < 7) (λ k. le_prop) s.first_ok t.first_ok j;
    }

-- a tail that ends in zeros is its two numbers and two zeros
pub tail_bytes : (t : List ℕ) → length t ≡ 4 → all_are 0 (drop 2 t) ≡ true → slice_index t 0 ∷ slice_index t 1 ∷ 0 ∷ 0 ∷ [] ≡ t
tail_bytes t l h =
    let z : replicate 2 0 ≡ drop 2 t = replicated_at 2 0 (drop 2 t) (simp length-drop (omega arith)) h in
    let e2 : 0 ≡ slice_index_or t 2 0 = ap (λ s. slice_index s 0) z ∙ get_or-drop 2 t 0 0 in
    let e3 : 0 ≡ slice_index_or t 3 0 = ap (λ s. slice_index s 1) z ∙ get_or-drop 2 t 1 0 in
    ap (λ x. slice_index t 0 ∷ slice_index t 1 ∷ x ∷ 0 ∷ []) e2 ∙ ap (λ x. slice_index t 0 ∷ slice_index t 1 ∷ slice_index t 2 ∷ x ∷ []) e3 ∙ four t l

-- so does a tail that keeps its rule
pub kept_zeros : (t : List ℕ) → week_tail t ≡ true → all_are 0 (drop 2 t) ≡ true
kept_zeros t h = (and_parts (nat_lt (slice_index t 1) 7) _ (and_parts (nat_lt 0 (slice_index t 0) && nat_le (slice_index t 0) 8) _ h).1).1

-- Plan records keep the laws of a kind.
use Rattle.std.specs.Prelude.{◌≡◌, ℕ, ◌^◌, ◌<◌, length, None, slice_index, refl}
use Rattle.std.proofs.Common.{ap, lt-ltb}
use mathlib.Core.HLevel.{is_prop→PathP, Π_prop}
use Rattle.std.proofs.Math.Bridge.{le_prop}
use Rattle.std.proofs.Math.Nat.{ℕ_set}
use Rattle.plans.specs.declared.atom_set.AtomSet.{AtomSet}
use Rattle.records.specs.declared.plan.Plan.{Plan}
use Rattle.records.specs.Plans.{plan_fields, plan_image, plan_tests, plan_fault}
use Rattle.records.specs.Bytes.{le4_single}
use Rattle.records.specs.FramesLemmas.{Long, frame_size, frame_single}
use Rattle.records.specs.Decoding.{clean_by}

pub plan_long : (p : Plan) → Long (plan_fields p)
plan_long p = record { atoms = refl; body = p.marks.long; tail = refl }

pub plan_size : (p : Plan) → length (plan_image p) ≡ 48
plan_size p = frame_size 67 0 (plan_fields p) (plan_long p)

pub plan_clean : (p : Plan) → plan_fault (plan_image p) ≡ None
plan_clean p = clean_by 67 0 plan_tests (plan_fields p) (plan_long p) (rw (lt-ltb _ _ p.marks.last))

same_sets : (s t : AtomSet) → s.bytes ≡ t.bytes → s ≡ t
same_sets s t e j = record {
  bytes = e j;
  long = is_prop→PathP (λ k. length (e k) ≡ 32) (λ k. ℕ_set _ _) s.long t.long j;
  byte = is_prop→PathP (λ k. (i : ℕ) → slice_index (e k) i < 256) (λ k. Π_prop (λ i. le_prop)) s.byte t.byte j;
  last = is_prop→PathP (λ k. slice_index (e k) 31 < 128) (λ k. le_prop) s.last t.last j;
}

pub plan_single : (p q : Plan) → plan_image p ≡ plan_image q → p ≡ q
plan_single p q e =
    let f = frame_single 67 0 (plan_fields p) (plan_fields q) (plan_long p) (plan_long q) e in
    let m = same_sets p.marks q.marks (ap (λ g. g.body) f) in
    let n = le4_single _ _ p.small q.small (ap (λ g. g.tail) f) in
    λ j. record { marks = m j; label = n j; small = is_prop→PathP (λ k. n k < 2 ^ 32) (λ k. le_prop) p.small q.small j }

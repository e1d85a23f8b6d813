-- Table records keep the laws of a kind.
use Rattle.std.specs.Prelude.{◌≡◌, true, length, None, refl}
use Rattle.std.proofs.Common.{ap}
use Rattle.std.proofs.Math.Bool.{Bool-set}
use mathlib.Core.HLevel.{is_prop→PathP}
use Rattle.std.proofs.Math.Nat.{ℕ_set}
use Rattle.records.specs.Atoms.{ascends}
use Rattle.records.specs.FramesLemmas.{Long, frame_size, frame_single}
use Rattle.records.specs.Decoding.{clean_by}
use Rattle.sources.specs.declared.table_source.TableSource.{TableSource}
use Rattle.sources.specs.Spare.{spare_bits}
use Rattle.sources.specs.Tables.{table_fields, table_image, table_tests, table_fault}

pub table_long : (s : TableSource) → Long (table_fields s)
table_long s = record { atoms = s.inputs_long; body = s.bits_long; tail = refl }

pub table_size : (s : TableSource) → length (table_image s) ≡ 48
table_size s = frame_size 83 84 (table_fields s) (table_long s)

pub table_clean : (s : TableSource) → table_fault (table_image s) ≡ None
table_clean s = clean_by 83 84 table_tests (table_fields s) (table_long s) (rw (s.inputs_ok, s.unused_ok))

pub table_single : (s t : TableSource) → table_image s ≡ table_image t → s ≡ t
table_single s t e =
    let f = frame_single 83 84 (table_fields s) (table_fields t) (table_long s) (table_long t) e in
    let a = ap (λ g. g.atoms) f in
    let b = ap (λ g. g.body) f in
    λ j. record {
      inputs = a j;
      bits = b j;
      inputs_long = is_prop→PathP (λ k. length (a k) ≡ 8) (λ k. ℕ_set _ _) s.inputs_long t.inputs_long j;
      inputs_ok = is_prop→PathP (λ k. ascends 0 (a k) ≡ true) (λ k. Bool-set _ _) s.inputs_ok t.inputs_ok j;
      bits_long = is_prop→PathP (λ k. length (b k) ≡ 32) (λ k. ℕ_set _ _) s.bits_long t.bits_long j;
      unused_ok = is_prop→PathP (λ k. spare_bits (a k) (b k) ≡ true) (λ k. Bool-set _ _) s.unused_ok t.unused_ok j;
    }

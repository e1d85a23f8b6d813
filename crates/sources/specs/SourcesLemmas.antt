-- Source records keep the laws of a kind, and a record's form chooses its tests.
use Rattle.std.specs.Prelude.{◌≡◌, ℕ, List, length, None, Ok, Result, ◌==◌, slice_index, refl}
use Rattle.std.proofs.Common.{sym, ◌∙◌, ap, arith, eq-eqb}
use Rattle.std.proofs.lemmas.Bool.{cond-true}
use Rattle.records.specs.declared.fault.RecordFault.{RecordFault}
use Rattle.records.specs.declared.fault.RecordFault.TheVariants.{Size}
use Rattle.records.specs.Bytes.{demanded_ok}
use Rattle.records.specs.Faults.{demanded}
use Rattle.sources.specs.declared.source.Source.{Source}
use Rattle.sources.specs.declared.source.Source.TheVariants.{Table, Sum, Week}
use Rattle.sources.specs.Judged.{letter_kind, kind_of}
use Rattle.sources.specs.Sources.{source_image, form_fault, source_fault}
use Rattle.sources.specs.Tables.{table_image}
use Rattle.sources.specs.Sums.{sum_image}
use Rattle.sources.specs.Weeks.{week_image}
use Rattle.sources.specs.TablesLemmas.{table_size, table_clean, table_single}
use Rattle.sources.specs.SumsLemmas.{sum_size, sum_clean, sum_single}
use Rattle.sources.specs.WeeksLemmas.{week_size, week_clean, week_single}

pub source_size : (s : Source) → length (source_image s) ≡ 48
source_size (Table s) = table_size s
source_size (Sum s) = sum_size s
source_size (Week s) = week_size s

-- the tests of a record of forty-eight bytes
pub source_tests : (bs : List ℕ) → length bs ≡ 48 → source_fault bs ≡ form_fault (slice_index bs 1) bs
source_tests bs l = cond-true (length bs == 48) _ _ (eq-eqb _ _ l)

-- the kind of a record whose size is kept
pub letter_is : (bs : List ℕ) (m : ℕ) (r : Result (Unit {0}) RecordFault) (u : Unit {0}) → r ≡ demanded (length bs == 48) Size → r ≡ Ok u → slice_index bs 0 ≡ m → letter_kind m bs ≡ kind_of bs
letter_is bs m r u is ok e = sym (cond-true (length bs == 48) _ _ (demanded_ok _ _ u (sym is ∙ ok)) ∙ ap (λ z. letter_kind z bs) e)

pub source_clean : (s : Source) → source_fault (source_image s) ≡ None
source_clean (Table s) = source_tests (table_image s) (table_size s) ∙ table_clean s
source_clean (Sum s) = source_tests (sum_image s) (sum_size s) ∙ sum_clean s
source_clean (Week s) = source_tests (week_image s) (week_size s) ∙ week_clean s

pub source_lettered : (s : Source) → slice_index (source_image s) 0 ≡ 83
source_lettered (Table s) = refl
source_lettered (Sum s) = refl
source_lettered (Week s) = refl

-- the form byte of a source
abbrev pub form_of : Source → ℕ
form_of (Table s) = 84
form_of (Sum s) = 87
form_of (Week s) = 75

pub source_form : (s : Source) → slice_index (source_image s) 1 ≡ form_of s
source_form (Table s) = refl
source_form (Sum s) = refl
source_form (Week s) = refl

forms : (s t : Source) → source_image s ≡ source_image t → form_of s ≡ form_of t
forms s t e = sym (source_form s) ∙ ap (λ bs. slice_index bs 1) e ∙ source_form t

pub source_single : (s t : Source) → source_image s ≡ source_image t → s ≡ t
source_single (Table s) (Table t) e = ap (λ x. Table x) (table_single s t e)
source_single (Table s) (Sum t) e = absurd (omega (arith, forms (Table s) (Sum t) e))
source_single (Table s) (Week t) e = absurd (omega (arith, forms (Table s) (Week t) e))
source_single (Sum s) (Table t) e = absurd (omega (arith, forms (Sum s) (Table t) e))
source_single (Sum s) (Sum t) e = ap (λ x. Sum x) (sum_single s t e)
source_single (Sum s) (Week t) e = absurd (omega (arith, forms (Sum s) (Week t) e))
source_single (Week s) (Table t) e = absurd (omega (arith, forms (Week s) (Table t) e))
source_single (Week s) (Sum t) e = absurd (omega (arith, forms (Week s) (Sum t) e))
source_single (Week s) (Week t) e = ap (λ x. Week x) (week_single s t e)

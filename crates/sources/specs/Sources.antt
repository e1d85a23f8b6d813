-- Source records: letter S, and one of the three forms.
use Rattle.std.specs.Prelude.{ℕ, false, cond, List, [], ◌∷◌, length, Some, Option, ◌==◌, slice_index}
use Rattle.records.specs.declared.fault.RecordFault.TheVariants.{Size, Letter, Form}
use Rattle.records.specs.declared.fault.RecordFault.{RecordFault}
use Rattle.records.specs.Faults.{first_fault}
use Rattle.sources.specs.declared.source.Source.{Source}
use Rattle.sources.specs.declared.source.Source.TheVariants.{Table, Sum, Week}
use Rattle.sources.specs.Tables.{table_image, table_fault}
use Rattle.sources.specs.Sums.{sum_image, sum_fault}
use Rattle.sources.specs.Weeks.{week_image, week_fault}

abbrev pub source_image : Source → List ℕ
source_image (Table s) = table_image s
source_image (Sum s) = sum_image s
source_image (Week s) = week_image s

-- the tests of a form: T, W, K, and no other
abbrev pub form_fault : ℕ → List ℕ → Option RecordFault
form_fault m bs =
    cond (m == 84) (table_fault bs) (
    cond (m == 87) (sum_fault bs) (
    cond (m == 75) (week_fault bs) (
    first_fault (((slice_index bs 0 == 83), Letter) ∷ (false, Form) ∷ []))))

abbrev pub source_fault : List ℕ → Option RecordFault
source_fault bs = cond (length bs == 48) (form_fault (slice_index bs 1) bs) (Some Size)

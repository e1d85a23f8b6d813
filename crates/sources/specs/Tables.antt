-- Table records: letter S, form T, inputs, a truth bit for each of their states, and an empty tail.
use Rattle.std.specs.Prelude.{ℕ, Bool, List, [], ◌∷◌, replicate, Option, ◌≡◌, length}
use Rattle.records.specs.declared.fault.RecordFault.{RecordFault}
use Rattle.records.specs.declared.fault.RecordFault.TheVariants.{Atoms, Body, Tail}
use Rattle.records.specs.declared.fields.Fields.{Fields}
use Rattle.records.specs.Atoms.{ascends, Ascending}
use Rattle.records.specs.Faults.{all_are}
use Rattle.records.specs.Frames.{frame, fault_by}
use Rattle.sources.specs.declared.table_source.TableSource.{TableSource}
use Rattle.sources.specs.Spare.{spare_bits, BitsSpare}

abbrev pub table_fields : TableSource → Fields
table_fields s = record { atoms = s.inputs; body = s.bits; tail = replicate 4 0 }

abbrev pub table_image : TableSource → List ℕ
table_image s = frame 83 84 (table_fields s)

abbrev pub table_tests : Fields → List (Bool × RecordFault)
table_tests f = (ascends 0 f.atoms, Atoms) ∷ (spare_bits f.atoms f.body, Body) ∷ (all_are 0 f.tail, Tail) ∷ []

abbrev pub table_fault : List ℕ → Option RecordFault
table_fault = fault_by 83 84 table_tests

-- what every table is: inputs that ascend, and no bit past those of their states
pub record TableAllowed (s : TableSource) : Type 0 where
  pub places : length s.inputs ≡ 8
  pub inputs : Ascending s.inputs
  pub bytes : length s.bits ≡ 32
  pub unused : BitsSpare s.inputs s.bits

abbrev pub TablesAllowed : Type 0
TablesAllowed = (s : TableSource) → TableAllowed s

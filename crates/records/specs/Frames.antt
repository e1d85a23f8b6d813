-- The fields of a record: the bytes that they make, and the tests of a kind with its letter, its form and tests of its own.
use Rattle.std.specs.Prelude.{ℕ, Bool, List, [], ◌∷◌, ◌++◌, length, Option, ◌==◌}
use Rattle.records.specs.declared.fault.RecordFault.{RecordFault}
use Rattle.records.specs.declared.fault.RecordFault.TheVariants.{Size, Letter, Form, Zero, Atoms, Body, Tail}
use Rattle.records.specs.declared.fields.Fields.{Fields}
use Rattle.records.specs.Faults.{field_of, all_are, first_fault, or_else}

-- the forty-eight bytes of a record
abbrev pub frame : ℕ → ℕ → Fields → List ℕ
frame l m f = l ∷ m ∷ 0 ∷ 0 ∷ (f.atoms ++ (f.body ++ f.tail))

abbrev pub fields_of : List ℕ → Fields
fields_of bs = record { atoms = field_of Atoms bs; body = field_of Body bs; tail = field_of Tail bs }

-- the letter, the form and the zero bytes
abbrev pub mark_tests : ℕ → ℕ → List ℕ → List (Bool × RecordFault)
mark_tests l m bs =
    (all_are l (field_of Letter bs), Letter) ∷
    (all_are m (field_of Form bs), Form) ∷
    (all_are 0 (field_of Zero bs), Zero) ∷
    []

-- the tests of every kind: the length, and those
abbrev pub frame_tests : ℕ → ℕ → List ℕ → List (Bool × RecordFault)
frame_tests l m bs = ((length bs == 48), Size) ∷ mark_tests l m bs

unfoldable pub frame_fault : ℕ → ℕ → List ℕ → Option RecordFault
frame_fault l m bs = first_fault (frame_tests l m bs)

-- what is wrong with the bytes of a kind, if anything is: its own tests follow those of every kind
abbrev pub fault_by : ℕ → ℕ → (Fields → List (Bool × RecordFault)) → List ℕ → Option RecordFault
fault_by l m tests bs = or_else (frame_fault l m bs) (first_fault (tests (fields_of bs)))

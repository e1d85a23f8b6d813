-- The faults of a record: layer, number and byte of each, the field that each names, and the first test that fails.
use Rattle.std.specs.Prelude.{ℕ, Bool, true, false, cond, List, [], ◌∷◌, take, drop, Some, None, Ok, Err, Option, Result, ◌==◌}
use Rattle.records.specs.declared.fault.RecordFault.{RecordFault}
use Rattle.records.specs.declared.fault.RecordFault.TheVariants.{Size, Letter, Form, Zero, Atoms, Body, Tail, Empty}
use Rattle.records.specs.declared.fault.Layer.TheVariants as layer
use Rattle.records.specs.declared.fault.Named.{Named}

-- each fault's layer, number and byte, the byte being its field's first
abbrev pub fault_name : RecordFault → Named
fault_name Size = record { layer = layer.Record; number = 1; byte = 0 }
fault_name Letter = record { layer = layer.Record; number = 2; byte = 0 }
fault_name Form = record { layer = layer.Record; number = 3; byte = 1 }
fault_name Zero = record { layer = layer.Record; number = 4; byte = 2 }
fault_name Atoms = record { layer = layer.Record; number = 5; byte = 4 }
fault_name Body = record { layer = layer.Record; number = 6; byte = 12 }
fault_name Tail = record { layer = layer.Record; number = 7; byte = 44 }
fault_name Empty = record { layer = layer.Record; number = 8; byte = 4 }

-- how many bytes the field of a fault has
abbrev pub length_of : RecordFault → ℕ
length_of Size = 0
length_of Letter = 1
length_of Form = 1
length_of Zero = 2
length_of Atoms = 8
length_of Body = 32
length_of Tail = 4
length_of Empty = 8

abbrev pub field_of : RecordFault → List ℕ → List ℕ
field_of f bs = take (length_of f) (drop (fault_name f).byte bs)

-- each number of the list is b
abbrev pub all_are : ℕ → List ℕ → Bool
all_are b [] = true
all_are b (x ∷ xs) = cond (x == b) (all_are b xs) false

-- the fault, unless a test holds
abbrev pub demanded : {E : Type 0} → Bool → E → Result (Unit {0}) E
demanded true f = Ok tt
demanded false f = Err f

-- the fault of the first test that fails
abbrev pub first_fault : List (Bool × RecordFault) → Option RecordFault
first_fault [] = None
first_fault (t ∷ ts) = cond t.0 (first_fault ts) (Some t.1)

-- a value, unless there is a fault
abbrev pub unless : {A E : Type 0} → Option E → A → Result A E
unless None x = Ok x
unless (Some e) x = Err e

-- the fault that a result has
abbrev pub fault_in : {A E : Type 0} → Result A E → Option E
fault_in (Ok x) = None
fault_in (Err e) = Some e

-- the first of two faults
abbrev pub or_else : {E : Type 0} → Option E → Option E → Option E
or_else (Some e) f = Some e
or_else None f = f

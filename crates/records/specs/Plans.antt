-- Plan records: letter C, form 0, no atom list, the marks and a label.
use Rattle.std.specs.Prelude.{◌≡◌, ℕ, ◌^◌, ◌<◌, Bool, false, List, [], ◌∷◌, length, replicate, Option, nat_lt, slice_index}
use Rattle.plans.specs.Bits.{bit_in}
use Rattle.records.specs.declared.fault.RecordFault.{RecordFault}
use Rattle.records.specs.declared.fault.RecordFault.TheVariants.{Atoms, Body}
use Rattle.records.specs.declared.fields.Fields.{Fields}
use Rattle.records.specs.declared.plan.Plan.{Plan}
use Rattle.records.specs.Numbers.{le4}
use Rattle.records.specs.Faults.{all_are}
use Rattle.records.specs.Frames.{frame, fault_by}

abbrev pub plan_fields : Plan → Fields
plan_fields p = record { atoms = replicate 8 255; body = p.marks.bytes; tail = le4 p.label }

abbrev pub plan_image : Plan → List ℕ
plan_image p = frame 67 0 (plan_fields p)

-- bit 255 is no atom's
abbrev pub plan_tests : Fields → List (Bool × RecordFault)
plan_tests f = (all_are 255 f.atoms, Atoms) ∷ (nat_lt (slice_index f.body 31) 128, Body) ∷ []

abbrev pub plan_fault : List ℕ → Option RecordFault
plan_fault = fault_by 67 0 plan_tests

-- what every plan is: thirty-two bytes of marks, and 255, which is no atom, is not marked
pub record PlanAllowed (p : Plan) : Type 0 where
  pub places : length p.marks.bytes ≡ 32
  pub atoms : bit_in p.marks.bytes 255 ≡ false
  pub label : p.label < 2 ^ 32

abbrev pub PlansAllowed : Type 0
PlansAllowed = (p : Plan) → PlanAllowed p

-- Sum records: letter S, form W, inputs, their weights and a bound.
use Rattle.std.specs.Prelude.{ℕ, Bool, List, [], ◌∷◌, map, Option, ◌≡◌, ◌<◌, ◌^◌, length}
use Rattle.std.specs.List.{flat_map}
use Rattle.records.specs.declared.fault.RecordFault.{RecordFault}
use Rattle.records.specs.declared.fault.RecordFault.TheVariants.{Atoms, Body}
use Rattle.records.specs.declared.fields.Fields.{Fields}
use Rattle.records.specs.Atoms.{ascends}
use Rattle.records.specs.Frames.{frame, fault_by}
use Rattle.records.specs.Numbers.{le4}
use Rattle.sources.specs.declared.sum_source.SumSource.{SumSource}
use Rattle.sources.specs.Spare.{spare_numbers}
use Rattle.sources.specs.Terms.{TermsAllowed}

abbrev pub sum_fields : SumSource → Fields
sum_fields s = record { atoms = map (λ t. t.atom) s.terms; body = flat_map le4 (map (λ t. t.weight) s.terms); tail = le4 s.bound }

abbrev pub sum_image : SumSource → List ℕ
sum_image s = frame 83 87 (sum_fields s)

abbrev pub sum_tests : Fields → List (Bool × RecordFault)
sum_tests f = (ascends 0 f.atoms, Atoms) ∷ (spare_numbers f.atoms f.body, Body) ∷ []

abbrev pub sum_fault : List ℕ → Option RecordFault
sum_fault = fault_by 83 87 sum_tests

-- what every sum is: inputs with their weights, and a bound
pub record SumAllowed (s : SumSource) : Type 0 where
  pub places : length s.terms ≡ 8
  pub terms : TermsAllowed (map (λ t. t.atom) s.terms) (map (λ t. t.weight) s.terms)
  pub bound : s.bound < 2 ^ 32

abbrev pub SumsAllowed : Type 0
SumsAllowed = (s : SumSource) → SumAllowed s

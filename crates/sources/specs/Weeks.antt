-- Week records: letter S, form K, inputs, their days, how many weeks are wanted and the first weekday.
use Rattle.std.specs.Prelude.{ℕ, Bool, ◌&&◌, List, [], ◌∷◌, map, drop, Option, nat_le, nat_lt, slice_index, ◌≡◌, ◌<◌, ◌≤◌, length}
use Rattle.std.specs.List.{flat_map}
use Rattle.records.specs.declared.fault.RecordFault.{RecordFault}
use Rattle.records.specs.declared.fault.RecordFault.TheVariants.{Atoms, Body, Tail}
use Rattle.records.specs.declared.fields.Fields.{Fields}
use Rattle.records.specs.Atoms.{ascends}
use Rattle.records.specs.Faults.{all_are}
use Rattle.records.specs.Frames.{frame, fault_by}
use Rattle.records.specs.Numbers.{le4}
use Rattle.sources.specs.declared.week_source.WeekSource.{WeekSource}
use Rattle.sources.specs.Spare.{spare_numbers}
use Rattle.sources.specs.Terms.{TermsAllowed}

abbrev pub week_fields : WeekSource → Fields
week_fields s = record { atoms = map (λ t. t.atom) s.terms; body = flat_map le4 (map (λ t. t.day) s.terms); tail = s.wanted ∷ s.first ∷ 0 ∷ 0 ∷ [] }

abbrev pub week_image : WeekSource → List ℕ
week_image s = frame 83 75 (week_fields s)

-- 1 to 8 weeks, a weekday from 0 to 6, and two zeros
abbrev pub week_tail : List ℕ → Bool
week_tail t = (nat_lt 0 (slice_index t 0) && nat_le (slice_index t 0) 8) && (nat_lt (slice_index t 1) 7 && all_are 0 (drop 2 t))

abbrev pub week_tests : Fields → List (Bool × RecordFault)
week_tests f = (ascends 0 f.atoms, Atoms) ∷ (spare_numbers f.atoms f.body, Body) ∷ (week_tail f.tail, Tail) ∷ []

abbrev pub week_fault : List ℕ → Option RecordFault
week_fault = fault_by 83 75 week_tests

-- what every week source is: inputs with their days, one to eight weeks, and one of seven weekdays
pub record WeekAllowed (s : WeekSource) : Type 0 where
  pub places : length s.terms ≡ 8
  pub terms : TermsAllowed (map (λ t. t.atom) s.terms) (map (λ t. t.day) s.terms)
  pub some : 1 ≤ s.wanted
  pub most : s.wanted ≤ 8
  pub first : s.first < 7

abbrev pub WeeksAllowed : Type 0
WeeksAllowed = (s : WeekSource) → WeekAllowed s

-- Rule records: letter R, form 0, a head, a body of literals and a label.
use Rattle.std.specs.Prelude.{◌≡◌, ◌≢◌, ℕ, ◌^◌, ◌<◌, Bool, true, not, ◌&&◌, ◌⊎◌, List, [], ◌∷◌, length, is_some, None, Option, ◌==◌, slice_index, slice_index_or}
use Rattle.std.specs.List.{flat_map}
use Rattle.records.specs.declared.fault.RecordFault.{RecordFault}
use Rattle.records.specs.declared.fault.RecordFault.TheVariants.{Atoms, Body, Empty}
use Rattle.records.specs.declared.fields.Fields.{Fields}
use Rattle.records.specs.declared.literal.Literal.{Literal}
use Rattle.records.specs.declared.rule.Rule.{Rule}
use Rattle.records.specs.Numbers.{le4}
use Rattle.records.specs.Atoms.{ascends, Ascending}
use Rattle.records.specs.Literals.{pair_of, body_rule, places_ok, LiteralsFirst}
use Rattle.records.specs.Frames.{frame, fault_by}

abbrev pub rule_fields : List ℕ → List (Option Literal) → ℕ → Fields
rule_fields h b n = record { atoms = h; body = flat_map pair_of b; tail = le4 n }

abbrev pub rule_image : Rule → List ℕ
rule_image r = frame 82 0 (rule_fields r.head r.body r.label)

-- the last test: a head atom or a literal
abbrev pub rule_tests : Fields → List (Bool × RecordFault)
rule_tests f =
    (ascends 0 f.atoms, Atoms) ∷
    (body_rule f.body, Body) ∷
    (not (slice_index f.atoms 0 == 255 && slice_index f.body 0 == 0), Empty) ∷
    []

abbrev pub rule_fault : List ℕ → Option RecordFault
rule_fault = fault_by 82 0 rule_tests

-- every rule's literals are within their bounds, its unused places last
abbrev pub BodiesStand : Type 0
BodiesStand = (r : Rule) → places_ok r.body ≡ true

-- the bodies whose bytes pass the test are literals, and then unused places
abbrev pub LiteralsStand : Type 0
LiteralsStand = (ps : List (Option Literal)) → (body_rule (flat_map pair_of ps) ≡ true → LiteralsFirst ps) × (LiteralsFirst ps → body_rule (flat_map pair_of ps) ≡ true)

-- what every rule is: atoms that ascend, literals and then unused places, and something in one of the two
pub record RuleAllowed (r : Rule) : Type 0 where
  pub places : length r.head ≡ 8
  pub head : Ascending r.head
  pub sixteen : length r.body ≡ 16
  pub body : LiteralsFirst r.body
  pub filled : (slice_index r.head 0 ≢ 255) ⊎ (is_some (slice_index_or r.body 0 None) ≡ true)
  pub label : r.label < 2 ^ 32

abbrev pub RulesAllowed : Type 0
RulesAllowed = (r : Rule) → RuleAllowed r

-- A record of any kind: which kind its letter and form make it, and what is wrong with it.
use Rattle.std.specs.Prelude.{ℕ, cond, List, length, Err, Result, ◌==◌, slice_index}
use Rattle.records.specs.declared.fault.RecordFault.TheVariants.{Size, Letter}
use Rattle.records.specs.declared.fault.RecordFault.{RecordFault}
use Rattle.records.specs.Faults.{unless}
use Rattle.records.specs.Rules.{rule_fault}
use Rattle.records.specs.Plans.{plan_fault}
use Rattle.sources.specs.declared.kind.Kind.{Kind}
use Rattle.sources.specs.declared.kind.Kind.TheVariants.{Table, Sum, Week, Rule, Plan}
use Rattle.sources.specs.Sources.{source_fault}

-- the kind of a form without fault
abbrev pub form_kind : ℕ → Kind
form_kind m = cond (m == 84) Table (cond (m == 87) Sum Week)

abbrev pub letter_kind : ℕ → List ℕ → Result Kind RecordFault
letter_kind l bs =
    cond (l == 83) (unless (source_fault bs) (form_kind (slice_index bs 1))) (
    cond (l == 82) (unless (rule_fault bs) Rule) (
    cond (l == 67) (unless (plan_fault bs) Plan) (
    Err Letter)))

abbrev pub kind_of : List ℕ → Result Kind RecordFault
kind_of bs = cond (length bs == 48) (letter_kind (slice_index bs 0) bs) (Err Size)

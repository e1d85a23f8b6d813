-- A plain row and its rule: a row is a rule's exactly when it keeps the rules of a rule record.
use Rattle.std.specs.Prelude.{◌≡◌, Bool, false, not, is_some, Ok, Err, Option, Result}
use Rattle.records.specs.declared.fault.RecordFault.{RecordFault}
use Rattle.records.specs.declared.row.RuleRow.{RuleRow}
use Rattle.records.specs.declared.rule.Rule.{Rule}
use Rattle.records.specs.Faults.{first_fault}
use Rattle.records.specs.Rules.{rule_fields, rule_tests}

abbrev pub row_of : Rule → RuleRow
row_of r = record { head = r.head; body = r.body; label = r.label }

-- the first rule of a rule record that the row breaks, if it breaks one
abbrev pub row_fault : RuleRow → Option RecordFault
row_fault w = first_fault (rule_tests (rule_fields w.head w.body w.label))

-- whether the row keeps the rules
abbrev pub row_stands : RuleRow → Bool
row_stands w = not (is_some (row_fault w))

abbrev pub RuleOf : RuleRow → Result Rule RecordFault → Type 0
RuleOf w (Err e) = row_stands w ≡ false
RuleOf w (Ok r) = row_of r ≡ w

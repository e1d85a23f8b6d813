-- A run of rule records added to a rulebook, in order. Assumes nothing.
use Rattle.std.specs.Prelude.{◌≡◌, ℕ, List, ◌++◌, map}
use Rattle.std.specs.List.{flat_map}
use Rattle.records.specs.Rows.{row_of}
use Rattle.records.specs.Rules.{rule_image}
use Rattle.records.specs.declared.row.RuleRow.{RuleRow}
use Rattle.records.specs.declared.rule.Rule.{Rule}

pub record AddedRun (run : List ℕ) (before after : List RuleRow) : Type 0 where
  pub rules : List Rule
  pub images : flat_map rule_image rules ≡ run
  pub rows : after ≡ before ++ map row_of rules

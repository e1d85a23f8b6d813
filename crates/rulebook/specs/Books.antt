-- What adding a record to a rulebook answers, and what the book holds then. Assumes nothing.
use Rattle.std.specs.Prelude.{◌≡◌, ℕ, ◌<◌, ◌≤◌, List, [], ◌∷◌, ◌++◌, length, Some, None, Ok, Err, Result}
use Rattle.records.specs.Rows.{row_of}
use Rattle.records.specs.Rules.{rule_image, rule_fault}
use Rattle.records.specs.declared.row.RuleRow.{RuleRow}
use Rattle.records.specs.declared.rule.Rule.{Rule}
use Rattle.rulebook.specs.declared.book_fault.BookFault.{BookFault}
use Rattle.rulebook.specs.declared.book_fault.BookFault.TheVariants.{Memory, Record, Full}

-- a book holds no more rules than this
abbrev pub book_limit : ℕ
book_limit = 256

-- the record's rule comes last, or the book stays as it was: the record's own fault first, then want of room
abbrev pub Added : List ℕ → List RuleRow → List RuleRow → Result (Unit {0}) BookFault → Type 0
Added bytes before after (Ok u) = (length before < book_limit) × ((v : Rule) × (rule_image v ≡ bytes) × (after ≡ before ++ row_of v ∷ []))
Added bytes before after (Err (Record e)) = (rule_fault bytes ≡ Some e) × (after ≡ before)
Added bytes before after (Err Full) = (rule_fault bytes ≡ None) × (book_limit ≤ length before) × (after ≡ before)
Added bytes before after (Err Memory) = (rule_fault bytes ≡ None) × (length before < book_limit) × (after ≡ before)

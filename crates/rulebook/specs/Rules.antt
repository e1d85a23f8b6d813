-- The rule that a row of the rulebook is, in the words of the definitions. Assumes nothing.
use Rattle.std.specs.Prelude.{ℕ, Bool, true, List, [], ◌∷◌, map, Some, None, Option, nat_lt}
use Rattle.semantics.specs.Program as P
use Rattle.semantics.specs.Program.{Interp, Meaning, atom_limit, literal_true, keep}
use Rattle.semantics.specs.Check.{literal_known}
use Rattle.records.specs.declared.literal.Literal.{Literal}
use Rattle.records.specs.declared.literal.Literal.TheVariants.{Atom, NotAtom, Source, NotSource}
use Rattle.records.specs.declared.row.RuleRow.{RuleRow}

abbrev pub literal_of : Literal → P.Literal
literal_of (Atom a) = P.atom a
literal_of (NotAtom a) = P.not_atom a
literal_of (Source s) = P.source s
literal_of (NotSource s) = P.not_source s

-- the literals of a body, its unused places left out
abbrev pub body_of : List (Option Literal) → List P.Literal
body_of [] = []
body_of (None ∷ ls) = body_of ls
body_of (Some l ∷ ls) = literal_of l ∷ body_of ls

-- 255 in a head is no atom
abbrev pub head_of : List ℕ → List ℕ
head_of atoms = keep (λ a. nat_lt a atom_limit) atoms

abbrev pub rule_of : RuleRow → P.Rule
rule_of r = record { head = head_of r.head; body = body_of r.body; label = r.label }

abbrev pub rules_of : List RuleRow → List P.Rule
rules_of rows = map rule_of rows

-- the truth of a place of a body: an unused one is true
abbrev pub place_true : Meaning → Interp → Option Literal → Bool
place_true m K None = true
place_true m K (Some l) = literal_true m K (literal_of l)

-- the oracle has the source that a place names
abbrev pub place_known : Meaning → Option Literal → Bool
place_known m None = true
place_known m (Some l) = literal_known m (literal_of l)

-- what stands past the end of a list of rows
abbrev pub no_row : RuleRow
no_row = record { head = []; body = []; label = 0 }

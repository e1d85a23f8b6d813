-- What is said of a plan or of a bad file, and the bytes of each line. Assumes nothing.
use Rattle.std.specs.Prelude.{ℕ, zero, suc, cond, List, [], ◌∷◌, ◌++◌, map, codes, decimal, slice_index_or}
use Rattle.std.specs.List.{flat_map}
use Rattle.semantics.specs.Program.{Interp, Rule, atom_limit, no_rule}
use Rattle.semantics.specs.Judge as J
use Rattle.semantics.specs.Check.{Checked, fault, answered}
use Rattle.lines.specs.declared.report.File.{File}
use Rattle.lines.specs.declared.report.File.TheVariants.{House, Site}

-- plans and rules go by their labels
pub data Said : Type 0 where
  stands : ℕ → Said
  breaks : ℕ → ℕ → Said
  circle : ℕ → Interp → Said
  refused : ℕ → ℕ → Said
  bad_file : File → ℕ → ℕ → ℕ → Said

-- what a check's answer says of the plan with this label
abbrev pub said_of : ℕ → List Rule → Checked → Said
said_of label rules (fault n) = refused label n
said_of label rules (answered J.stands) = stands label
said_of label rules (answered (J.broken n)) = breaks label (slice_index_or rules n no_rule).label
said_of label rules (answered (J.unfounded X)) = circle label X

-- the numbers below n that are in, ascending
unfoldable pub members_below : Interp → ℕ → List ℕ
members_below X zero = []
members_below X (suc n) = members_below X n ++ cond (X n) (n ∷ []) []

abbrev pub members : Interp → List ℕ
members X = members_below X atom_limit

abbrev pub file_name : File → List ℕ
file_name House = codes "house"
file_name Site = codes "site"

abbrev pub fields : Said → List (List ℕ)
fields (stands label) = codes "plan" ∷ decimal label ∷ codes "stands" ∷ []
fields (breaks label rule) = codes "plan" ∷ decimal label ∷ codes "breaks" ∷ decimal rule ∷ []
fields (circle label X) = codes "plan" ∷ decimal label ∷ codes "circle" ∷ map decimal (members X)
fields (refused label number) = codes "plan" ∷ decimal label ∷ codes "refused" ∷ decimal number ∷ []
fields (bad_file file number place byte) =
    file_name file ∷ codes "refused" ∷ decimal number ∷ codes "record" ∷ decimal place ∷ codes "byte" ∷ decimal byte ∷ []

-- fields are parted by one space
abbrev pub spaced : List ℕ → List ℕ
spaced field = 32 ∷ field

abbrev pub parted : List (List ℕ) → List ℕ
parted [] = []
parted (x ∷ xs) = x ++ flat_map spaced xs

-- a line ends in byte 10
abbrev pub line_bytes : Said → List ℕ
line_bytes s = parted (fields s) ++ 10 ∷ []

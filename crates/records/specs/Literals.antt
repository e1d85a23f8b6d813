-- The literals of a rule's body, and the two bytes of each.
use Rattle.std.specs.Prelude.{◌≡◌, ℕ, ◌<◌, Bool, true, false, cond, ◌&&◌, List, [], ◌∷◌, is_some, Some, None, Option, ◌==◌, nat_lt, slice_index_or}
use Rattle.records.specs.declared.literal.Literal.{Literal}
use Rattle.records.specs.declared.literal.Literal.TheVariants.{Atom, NotAtom, Source, NotSource}
use Rattle.records.specs.Faults.{all_are}

-- the literal of a code and a number: atoms are below 255, sources below 64
abbrev pub literal_of : ℕ → ℕ → Option Literal
literal_of c n =
    cond (c == 1 && nat_lt n 255) (Some (Atom n)) (
    cond (c == 2 && nat_lt n 255) (Some (NotAtom n)) (
    cond (c == 3 && nat_lt n 64) (Some (Source n)) (
    cond (c == 4 && nat_lt n 64) (Some (NotSource n)) None)))

-- the two bytes of a place of a body
abbrev pub pair_of : Option Literal → List ℕ
pair_of None = 0 ∷ 0 ∷ []
pair_of (Some (Atom n)) = 1 ∷ n ∷ []
pair_of (Some (NotAtom n)) = 2 ∷ n ∷ []
pair_of (Some (Source n)) = 3 ∷ n ∷ []
pair_of (Some (NotSource n)) = 4 ∷ n ∷ []

-- the places that bytes write
abbrev pub body_of : List ℕ → List (Option Literal)
body_of [] = []
body_of (c ∷ []) = []
body_of (c ∷ n ∷ bs) = literal_of c n ∷ body_of bs

-- literals, and then zeros
abbrev pub body_rule : List ℕ → Bool
body_rule [] = true
body_rule (c ∷ []) = false
body_rule (c ∷ n ∷ bs) = cond (is_some (literal_of c n)) (body_rule bs) (all_are 0 (c ∷ n ∷ bs))

-- an atom is below 255, a source below 64
abbrev pub literal_ok : Literal → Bool
literal_ok (Atom n) = nat_lt n 255
literal_ok (NotAtom n) = nat_lt n 255
literal_ok (Source n) = nat_lt n 64
literal_ok (NotSource n) = nat_lt n 64

abbrev pub all_unused : List (Option Literal) → Bool
all_unused [] = true
all_unused (None ∷ ps) = all_unused ps
all_unused (Some l ∷ ps) = false

-- the same rule, of the places: literals, and then unused places
abbrev pub places_ok : List (Option Literal) → Bool
places_ok [] = true
places_ok (None ∷ ps) = all_unused ps
places_ok (Some l ∷ ps) = literal_ok l && places_ok ps

-- the same bounds, in words
abbrev pub Within : Literal → Type 0
Within (Atom n) = n < 255
Within (NotAtom n) = n < 255
Within (Source n) = n < 64
Within (NotSource n) = n < 64

-- literals within their bounds, and none after an unused place
pub record LiteralsFirst (ps : List (Option Literal)) : Type 0 where
  pub within : (k : ℕ) (l : Literal) → slice_index_or ps k None ≡ Some l → Within l
  pub before : (i j : ℕ) (l : Literal) → i < j → slice_index_or ps j None ≡ Some l → is_some (slice_index_or ps i None) ≡ true

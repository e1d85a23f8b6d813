-- What a check answers, refusals included. Assumes nothing.
use Rattle.std.specs.Prelude.{◌≡◌, refl, Bool, true, false, cond, List, [], ◌∷◌, ℕ, zero, suc, ◌+◌, ◌≤◌, ltb}
use Rattle.std.proofs.Math.Option.{none, some}
use Rattle.std.proofs.Common.{lit≤}
use Rattle.semantics.specs.Program.{Interp, Plan, Subset, atom_limit, Literal, atom, not_atom, source, not_source, Rule, Meaning, all}
use Rattle.semantics.specs.Judge.{Verdict, broken, unfounded, judge, first_broken, set_of}

-- The most atoms that may be in when subsets are searched.
unfoldable pub search_limit : ℕ
search_limit = 24

-- The oracle has the source that a literal names.
abbrev pub literal_known : Meaning → Literal → Bool
literal_known m (atom a) = true
literal_known m (not_atom a) = true
literal_known m (source s) = ltb s m.count
literal_known m (not_source s) = ltb s m.count

abbrev pub sources_known : Meaning → List Rule → Bool
sources_known m rules = all (λ r. all (literal_known m) r.body) rules

-- How many of the numbers below n are in.
unfoldable pub size_below : ℕ → Interp → ℕ
size_below zero I = 0
size_below (suc n) I = cond (I n) 1 0 + size_below n I

pub data Checked : Type 0 where
  fault : ℕ → Checked
  answered : Verdict → Checked

-- Refused with 10 where a rule names a source that is not there; then the lowest broken rule; then refused with 25
-- where more atoms are in than are searched; then the judgement.
unfoldable pub checked : List Rule → Meaning → Interp → Checked
checked rules m I =
    elim (sources_known m rules) [
      | false ↦ fault 10
      | true ↦
          elim (first_broken m I 0 rules) [
            | some n ↦ answered (broken n)
            | none ↦ elim (ltb search_limit (size_below atom_limit I)) [ true ↦ fault 25 | false ↦ answered (judge rules m I) ]
          ]
    ]

-- A check that is not refused answers the judgement.
abbrev pub CheckJudges : Type 0
CheckJudges = (rules : List Rule) (m : Meaning) (I : Interp) (v : Verdict) → checked rules m I ≡ answered v → judge rules m I ≡ v

-- A set that a check names has only atoms that are in, and no more than are searched.
abbrev pub NamedFew : Type 0
NamedFew =
    (rules : List Rule) (m : Meaning) (I X : Interp) →
    Plan I →
    checked rules m I ≡ answered (unfounded X) →
    Subset X I × (size_below atom_limit X ≤ search_limit)

abbrev pub up_to : ℕ → List ℕ
up_to zero = []
up_to (suc n) = n ∷ up_to n

abbrev pub facts : ℕ → List Rule
facts zero = []
facts (suc n) = record { head = n ∷ []; body = []; label = 0 } ∷ facts n

abbrev pub no_source : Meaning
no_source = record { count = 0; small = lit≤ tt; truth = λ s I. false; local = λ s I J same. refl }

-- The order of a check's answers, on 25 facts.
pub record Crowded : Type 0 where
  pub too_many : checked (facts 25) no_source (set_of (up_to 25)) ≡ fault 25
  pub broken_first : checked (facts 26) no_source (set_of (up_to 25)) ≡ answered (broken 0)
  pub no_such_source : checked (record { head = []; body = source 0 ∷ []; label = 0 } ∷ []) no_source (set_of (up_to 25)) ≡ fault 10

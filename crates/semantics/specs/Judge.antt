-- The judgement of an interpretation, as it is computed. Assumes nothing.
use Rattle.std.specs.Prelude.{Bool, true, false, not, ◌&&◌, ◌||◌, List, [], ◌∷◌, ℕ, zero, suc, eqb}
use Rattle.std.proofs.Math.Option.{Option, none, some}
use Rattle.semantics.specs.Program.{Interp, Rule, Meaning, any, all, satisfied, body_true, ◌∖◌, atom_limit}

pub data Verdict : Type 0 where
  stands : Verdict
  broken : ℕ → Verdict
  unfounded : Interp → Verdict

abbrev pub nothing : Interp
nothing a = false

abbrev pub put : ℕ → Interp → Interp
put a X b = eqb a b || X b

abbrev pub set_of : List ℕ → Interp
set_of [] = nothing
set_of (a ∷ atoms) = put a (set_of atoms)

-- Some number below n is in.
unfoldable pub any_below : ℕ → Interp → Bool
any_below zero X = false
any_below (suc n) X = X n || any_below n X

-- The number, counted from n, of the first rule that is broken.
abbrev pub first_broken : Meaning → Interp → ℕ → List Rule → Option ℕ
first_broken m I n [] = none
first_broken m I n (r ∷ rules) = elim (satisfied m I r) [ false ↦ some n | true ↦ first_broken m I (suc n) rules ]

abbrev pub excused : Meaning → Interp → Interp → Rule → Bool
excused m I X r = not (any X r.head) || (not (body_true m I r) || (not (body_true m (I ∖ X) r) || any (I ∖ X) r.head))

-- The set has an atom, and each rule is excused.
abbrev pub unfounded_test : List Rule → Meaning → Interp → Interp → Bool
unfounded_test rules m I X = any_below atom_limit X && all (excused m I X) rules

-- The first set that passes the test, of those with atoms of I from a on, n numbers far. Sets without a come before those with it.
unfoldable pub seek : ℕ → ℕ → Interp → (Interp → Bool) → Option Interp
seek zero a I test = elim (test nothing) [ true ↦ some nothing | false ↦ none ]
seek (suc n) a I test =
    elim (I a) [
      | false ↦ seek n (suc a) I test
      | true ↦
          elim (seek n (suc a) I test) [
            | some X ↦ some X
            | none ↦ elim (seek n (suc a) I (λ X. test (put a X))) [ some X ↦ some (put a X) | none ↦ none ]
          ]
    ]

-- The lowest broken rule, else the earliest unfounded set, else the interpretation stands.
unfoldable pub judge : List Rule → Meaning → Interp → Verdict
judge rules m I =
    elim (first_broken m I 0 rules) [
      | some n ↦ broken n
      | none ↦ elim (seek atom_limit 0 I (unfounded_test rules m I)) [ some X ↦ unfounded X | none ↦ stands ]
    ]

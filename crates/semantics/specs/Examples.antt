-- Twelve plans and their judgements. Assumes nothing.
use Rattle.std.specs.Prelude.{◌≡◌, Bool, not, cond, List, [], ◌∷◌, ℕ, zero, suc, ◌+◌, leb}
use Rattle.std.proofs.Common.{ap, lit≤, lit<}
use Rattle.semantics.specs.Program.{Interp, Local, Rule, Meaning, Literal, atom, source, not_source}
use Rattle.semantics.specs.Judge.{stands, broken, unfounded, judge, set_of}

-- Source 0 says yes when atom 0 is in, source 1 when it is out, and source 2 when 3 for atom 0 and 4 for atom 1 reach the bound.
abbrev pub three_truth : ℕ → ℕ → Interp → Bool
three_truth bound s I =
    elim s [
      | zero ↦ I 0
      | suc s ↦ elim s [ zero ↦ not (I 0) | suc s ↦ leb bound (cond (I 0) 3 0 + cond (I 1) 4 0) ]
    ]

pub three_local : (bound s : ℕ) → Local (three_truth bound s)
three_local bound zero I J same = same 0 (lit< tt)
three_local bound (suc s) I J same = later s
  where
    later : (s : ℕ) → three_truth bound (suc s) I ≡ three_truth bound (suc s) J
    later zero = ap not (same 0 (lit< tt))
    later (suc s) = rw (same 0 (lit< tt), same 1 (lit< tt))

abbrev pub three : ℕ → Meaning
three bound = record { count = 3; small = lit≤ tt; truth = three_truth bound; local = three_local bound }

abbrev pub rule : List ℕ → List Literal → Rule
rule head body = record { head = head; body = body; label = 0 }

-- One combined fact: the judgement of each plan.
pub record Examples : Type 0 where
  pub p1 : judge [] (three 3) (set_of []) ≡ stands
  pub p2 : judge [] (three 3) (set_of (5 ∷ [])) ≡ unfounded (set_of (5 ∷ []))
  pub p3 : judge (rule (0 ∷ []) (source 0 ∷ []) ∷ []) (three 3) (set_of []) ≡ stands
  pub p4 : judge (rule (0 ∷ []) (source 0 ∷ []) ∷ []) (three 3) (set_of (0 ∷ [])) ≡ unfounded (set_of (0 ∷ []))
  pub p5 : judge (rule (0 ∷ 1 ∷ []) [] ∷ []) (three 3) (set_of (0 ∷ [])) ≡ stands
  pub p6 : judge (rule (0 ∷ 1 ∷ []) [] ∷ []) (three 3) (set_of []) ≡ broken 0
  pub p7 : judge (rule (0 ∷ 1 ∷ []) [] ∷ []) (three 3) (set_of (0 ∷ 1 ∷ [])) ≡ unfounded (set_of (1 ∷ []))
  pub p8 : judge (rule (0 ∷ []) (atom 1 ∷ []) ∷ rule (1 ∷ []) (atom 0 ∷ []) ∷ []) (three 3) (set_of (0 ∷ 1 ∷ [])) ≡ unfounded (set_of (0 ∷ 1 ∷ []))
  pub p9 : judge (rule (0 ∷ 1 ∷ []) [] ∷ rule (0 ∷ []) (atom 1 ∷ []) ∷ rule (1 ∷ []) (atom 0 ∷ []) ∷ []) (three 3) (set_of (0 ∷ 1 ∷ [])) ≡ stands
  pub p10 : judge (rule (0 ∷ []) (not_source 1 ∷ []) ∷ []) (three 3) (set_of (0 ∷ [])) ≡ unfounded (set_of (0 ∷ []))
  pub p11 : judge (rule (0 ∷ []) [] ∷ rule (1 ∷ []) (source 2 ∷ []) ∷ []) (three 3) (set_of (0 ∷ 1 ∷ [])) ≡ stands
  pub p12 : judge (rule (0 ∷ []) [] ∷ rule (1 ∷ []) (source 2 ∷ []) ∷ []) (three 4) (set_of (0 ∷ 1 ∷ [])) ≡ unfounded (set_of (1 ∷ []))

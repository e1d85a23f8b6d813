-- A check that is not refused answers the judgement. Assumes nothing.
use mathlib.Core.Path.{◌≡◌, refl, ◌∙◌, ap}
use mathlib.Core.Bool.{Bool, true, false, cond, false≢true}
use mathlib.Core.List.{List}
use mathlib.Core.Option.{Option, none, some}
use Prim.Native.Nat.{ℕ, zero, suc, ◌≤◌}
use native.Mathlib.Omega.{arith}
use lib.Dec.{ltb}
use Rattle.std.proofs.lemmas.Bool.{ltb-false}
use Rattle.semantics.specs.Program.{Interp, Subset, atom_limit, Rule, Meaning}
use Rattle.semantics.specs.Judge.{Verdict, stands, broken, unfounded, judge, seek, first_broken, unfounded_test}
use Rattle.semantics.specs.Check.{Checked, fault, answered, checked, sources_known, search_limit, size_below, CheckJudges, NamedFew}
use Rattle.semantics.proofs.Verdicts.{judge_right}

same_answer : (v w : Verdict) → answered v ≡ answered w → v ≡ w
same_answer v w e = cc

no_fault : {A : Type 0} (n : ℕ) (v : Verdict) → fault n ≡ answered v → A
no_fault n v e = let z : ◌≡◌ {A = ℕ} 0 1 = cc in absurd (omega arith)

at_broken : (rules : List Rule) (m : Meaning) (I : Interp) (n : ℕ) → first_broken m I 0 rules ≡ some n → judge rules m I ≡ broken n
unfolding judge
at_broken rules m I n e =
    ap {B = Verdict}
    (λ (o : Option ℕ). elim o [ some n ↦ broken n | none ↦ elim (seek atom_limit 0 I (unfounded_test rules m I)) [ some X ↦ unfounded X | none ↦ stands ] ])
    e

pub check_judges : CheckJudges
unfolding checked
check_judges rules m I v e = go (sources_known m rules) (first_broken m I 0 rules) refl (ltb search_limit (size_below atom_limit I)) e
  where
    go :
        (k : Bool) (o : Option ℕ) → first_broken m I 0 rules ≡ o →
        (t : Bool) → elim k as (λ _. Checked) [ false ↦ fault 10 | true ↦ elim o [ some n ↦ answered (broken n) | none ↦ elim t [ true ↦ fault 25 | false ↦ answered (judge rules m I) ] ] ] ≡ answered v →
        judge rules m I ≡ v
    go false o p t e = no_fault 10 v e
    go true (some n) p t e = at_broken rules m I n p ∙ same_answer (broken n) v e
    go true none p true e = no_fault 25 v e
    go true none p false e = same_answer (judge rules m I) v e

-- the atoms of a subset are no more
size_within : (n : ℕ) (X I : Interp) → Subset X I → size_below n X ≤ size_below n I
unfolding size_below
size_within zero X I s = omega arith
size_within (suc n) X I s = let rest = size_within n X I s in let here = one_within (X n) (I n) (s n) in omega arith
  where
    one_within : (x i : Bool) → (x ≡ true → i ≡ true) → cond {A = ℕ} x 1 0 ≤ cond {A = ℕ} i 1 0
    one_within true true h = omega arith
    one_within true false h = absurd (false≢true (h refl))
    one_within false i h = omega arith

searched : (rules : List Rule) (m : Meaning) (I X : Interp) → checked rules m I ≡ answered (unfounded X) → size_below atom_limit I ≤ search_limit
unfolding checked
searched rules m I X e = go (sources_known m rules) (first_broken m I 0 rules) (ltb search_limit (size_below atom_limit I)) refl e
  where
    never : {A : Type 0} (n : ℕ) → answered (broken n) ≡ answered (unfounded X) → A
    never n e = let z : ◌≡◌ {A = ℕ} 0 1 = cc in absurd (omega arith)

    go :
        (k : Bool) (o : Option ℕ) (t : Bool) → ltb search_limit (size_below atom_limit I) ≡ t →
        elim k as (λ _. Checked) [ false ↦ fault 10 | true ↦ elim o [ some n ↦ answered (broken n) | none ↦ elim t [ true ↦ fault 25 | false ↦ answered (judge rules m I) ] ] ] ≡ answered (unfounded X) →
        size_below atom_limit I ≤ search_limit
    go false o t q e = no_fault 10 (unfounded X) e
    go true (some n) t q e = never n e
    go true none true q e = no_fault 25 (unfounded X) e
    go true none false q e = ltb-false search_limit (size_below atom_limit I) q

pub named_few : NamedFew
named_few rules m I X plan e =
    let says = (judge_right rules m I plan (unfounded X)).0 (check_judges rules m I (unfounded X) e) in
    let inside = says.1.holds.inside in
    (inside, omega (arith, size_within atom_limit X I inside, searched rules m I X e))

-- The answers of a check, step by step. Assumes nothing.
use Rattle.std.proofs.Common.{◌≡◌, ℕ, ◌<◌, ◌≤◌, Bool, true, false, eqb, ltb, List, length, Some, None, refl, ap, ◌∙◌, arith}
use mathlib.Core.Option.{Option, none, some}
use Rattle.std.proofs.lemmas.Bool.{both_ways, lt-ltb, le-ltb, eq-eqb}
use Rattle.semantics.specs.Program.{Interp, Plan, Rule, Meaning, atom_limit}
use Rattle.semantics.specs.Judge as J
use Rattle.semantics.specs.Check.{Checked, fault, answered, checked, sources_known, size_below, search_limit}
use Rattle.semantics.proofs.Verdicts.{judge_right}
use Rattle.plans.specs.Partial.{Decided, full, Opens, removed}
use Rattle.plans.specs.declared.partial_plan.PartialPlan.{PartialPlan}
use Rattle.plans.proofs.Partial.{full_within}
use Rattle.records.specs.declared.row.RuleRow.{RuleRow}
use Rattle.rulebook.specs.Rules.{rules_of}
use Rattle.judge.specs.Search.{Live, Fit, Found}
use Rattle.judge.specs.Outcome.{outcome}
use Rattle.judge.proofs.Satisfied.{unbroken}
use Rattle.judge.proofs.Unfounded.{free_when, earliest}

-- past the tests, in their order
module _ (rules : List Rule) (m : Meaning) (I : Interp) (place : List ℕ) (long : length place ≡ 32) where
  past_place : outcome rules m I place ≡ checked rules m I
  past_place = go (eqb (length place) 32) (eq-eqb (length place) 32 long)
    where
      go : (t : Bool) → t ≡ true → elim t [ true ↦ checked rules m I | false ↦ fault 1 ] ≡ checked rules m I
      go true e = refl
      go false e = absurd (both_ways false refl e)

  abbrev later : Option ℕ → Bool → Checked
  later o t = elim o [ some n ↦ answered (J.broken n) | none ↦ elim t [ true ↦ fault 25 | false ↦ answered (J.judge rules m I) ] ]

  abbrev crowded : Bool
  crowded = ltb search_limit (size_below atom_limit I)

  past_known : (t : Bool) → sources_known m rules ≡ t → outcome rules m I place ≡ elim t [ false ↦ fault 10 | true ↦ later (J.first_broken m I 0 rules) crowded ]
  unfolding checked
  past_known t e = past_place ∙ ap (λ (t : Bool). elim t [ false ↦ fault 10 | true ↦ later (J.first_broken m I 0 rules) crowded ]) e

  pub told_source : sources_known m rules ≡ false → outcome rules m I place ≡ fault 10
  told_source e = past_known false e

  module _ (known : sources_known m rules ≡ true) where
    pub told_broken : (n : ℕ) → J.first_broken m I 0 rules ≡ some n → outcome rules m I place ≡ answered (J.broken n)
    told_broken n e = past_known true known ∙ ap (λ (o : Option ℕ). later o crowded) e

    past_broken : J.first_broken m I 0 rules ≡ none → outcome rules m I place ≡ later none crowded
    past_broken e = past_known true known ∙ ap (λ (o : Option ℕ). later o crowded) e

    pub told_crowded : J.first_broken m I 0 rules ≡ none → (n : ℕ) → n ≡ size_below atom_limit I → 24 < n → outcome rules m I place ≡ fault 25
    unfolding search_limit
    told_crowded e n is lt = past_broken e ∙ ap (later none) (lt-ltb 24 (size_below atom_limit I) (omega arith))

    pub told_judged : J.first_broken m I 0 rules ≡ none → (n : ℕ) → n ≡ size_below atom_limit I → n ≤ 24 → outcome rules m I place ≡ answered (J.judge rules m I)
    unfolding search_limit
    told_judged e n is le = past_broken e ∙ ap (later none) (le-ltb 24 (size_below atom_limit I) (omega arith))

-- what the search says is the judgement
is_plan : (plan : PartialPlan) → Plan (full plan)
is_plan plan a e = (full_within plan).small a e

module _ (m : Meaning) (rows : List RuleRow) (live : List Bool) (plan rest : PartialPlan) (is_live : Live m (full plan) rows live) (opens : Opens plan rest) (unbroken-all : J.first_broken m (full plan) 0 (rules_of rows) ≡ none) where
  pub judged_stands : Found (Fit m rows live plan) rest None → J.judge (rules_of rows) m (full plan) ≡ J.stands
  judged_stands f =
      (judge_right (rules_of rows) m (full plan) (is_plan plan) J.stands).1
      (free_when m rows live plan rest is_live opens (unbroken m (full plan) 0 (rules_of rows) unbroken-all) f)

  pub judged_unfounded : Decided plan → (s : PartialPlan) → Found (Fit m rows live plan) rest (Some s) → J.judge (rules_of rows) m (full plan) ≡ J.unfounded (removed plan s)
  judged_unfounded d s f =
      let ok = unbroken m (full plan) 0 (rules_of rows) unbroken-all in
      (judge_right (rules_of rows) m (full plan) (is_plan plan) (J.unfounded (removed plan s))).1 (ok, earliest m rows live plan rest is_live opens d ok s f)

-- The clauses that a consult must keep, one by one. Assumes nothing.
use Rattle.std.specs.Prelude.{◌≡◌, ℕ, ◌<◌, ◌≤◌, true, false, cond}
use Rattle.semantics.specs.Program.{Interp, Meaning}
use Rattle.plans.specs.declared.partial_plan.PartialPlan.{PartialPlan}
use Rattle.plans.specs.Partial.{Agrees, Decided}
use Rattle.oracles.specs.declared.oracle.Reply.{Reply}
use Rattle.oracles.specs.declared.oracle.Reply.TheVariants.{NoSource, Yes, No}
use Rattle.oracles.specs.Answers.{Answers}

pub record Clauses (m : Meaning) (n : ℕ) (p : PartialPlan) (r : Reply) : Type 0 where
  pub none_only : r ≡ NoSource → m.count ≤ n
  pub none_if : m.count ≤ n → r ≡ NoSource
  pub decided : n < m.count → Decided p → (I : Interp) → Agrees p I → r ≡ cond (m.truth n I) Yes No
  pub sound_yes : r ≡ Yes → (I : Interp) → Agrees p I → m.truth n I ≡ true
  pub sound_no : r ≡ No → (I : Interp) → Agrees p I → m.truth n I ≡ false

abbrev pub ClausesFollow : Type 0
ClausesFollow = (m : Meaning) (n : ℕ) (p : PartialPlan) (r : Reply) → Answers m n p r → Clauses m n p r

abbrev pub ClausesSuffice : Type 0
ClausesSuffice = (m : Meaning) (n : ℕ) (p : PartialPlan) (r : Reply) → Clauses m n p r → Answers m n p r

-- What each reply says of a source at a partial plan. Assumes nothing.
use Rattle.std.specs.Prelude.{◌≡◌, ℕ, ◌<◌, ◌≤◌, true, false}
use Rattle.semantics.specs.Program.{Interp, Meaning}
use Rattle.plans.specs.declared.partial_plan.PartialPlan.{PartialPlan}
use Rattle.plans.specs.Partial.{Agrees, Decided}
use Rattle.oracles.specs.declared.oracle.Reply.{Reply}
use Rattle.oracles.specs.declared.oracle.Reply.TheVariants.{NoSource, Yes, No, Open}

-- Yes and No are the truth on every interpretation that agrees; with no atom open one of them is given.
abbrev pub Answers : Meaning → ℕ → PartialPlan → Reply → Type 0
Answers m n p NoSource = m.count ≤ n
Answers m n p Yes = (n < m.count) × ((I : Interp) → Agrees p I → m.truth n I ≡ true)
Answers m n p No = (n < m.count) × ((I : Interp) → Agrees p I → m.truth n I ≡ false)
Answers m n p Open = (n < m.count) × (Decided p → ⊥)

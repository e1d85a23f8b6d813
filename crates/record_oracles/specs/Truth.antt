-- The truth of a source, and when a partial plan settles it. Assumes nothing.
use Rattle.std.specs.Prelude.{◌≡◌, ℕ, Bool, true, false, Some, None, Option}
use Rattle.semantics.specs.Program.{Interp, Local, Meaning}
use Rattle.plans.specs.declared.partial_plan.PartialPlan.{PartialPlan}
use Rattle.plans.specs.Partial.{Agrees}
use Rattle.oracles.specs.declared.oracle.Reply.{Reply}
use Rattle.oracles.specs.declared.oracle.Reply.TheVariants.{NoSource, Yes, No, Open}

-- a truth on every interpretation, which rests on the atoms alone
pub record Truth : Type 0 where
  pub on : Interp → Bool
  pub local : Local on

-- two interpretations that agree with the plan differ in truth
pub record Differs (t : Interp → Bool) (p : PartialPlan) : Type 0 where
  pub one : Interp
  pub other : Interp
  pub one_agrees : Agrees p one
  pub other_agrees : Agrees p other
  pub one_true : t one ≡ true
  pub other_false : t other ≡ false

-- the truth on every interpretation that agrees, or none where two of them differ
abbrev pub Settles : (Interp → Bool) → PartialPlan → Option Bool → Type 0
Settles t p (Some b) = (I : Interp) → Agrees p I → t I ≡ b
Settles t p None = Differs t p

-- Open only where the plan does not settle the truth.
abbrev pub Sharp : Meaning → ℕ → PartialPlan → Reply → Type 0
Sharp m n p NoSource = Unit {0}
Sharp m n p Yes = Unit {0}
Sharp m n p No = Unit {0}
Sharp m n p Open = Differs (m.truth n) p

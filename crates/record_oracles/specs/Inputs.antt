-- When an input of a source is in, and the interpretations with the open atoms all in or all out. Assumes nothing.
use Rattle.std.specs.Prelude.{◌≡◌, ℕ, Bool, true, false, ◌&&◌, nat_lt, refl}
use Rattle.std.proofs.lemmas.Bool.{ltb-true}
use Rattle.semantics.specs.Program.{Interp, Same, atom_limit}
use Rattle.plans.specs.declared.partial_plan.Status.{Status}
use Rattle.plans.specs.declared.partial_plan.Status.TheVariants.{Open, In, Out}
use Rattle.plans.specs.declared.partial_plan.PartialPlan.{PartialPlan}
use Rattle.plans.specs.Partial.{place_at}
use Rattle.record_oracles.specs.declared.filled.Filled.{Filled}

-- an unused place, 255, is no atom and so never in
abbrev pub holds : Interp → ℕ → Bool
holds I a = nat_lt a atom_limit && I a

pub and_same : (b x y : Bool) → (b ≡ true → x ≡ y) → (b && x) ≡ (b && y)
and_same true x y h = h refl
and_same false x y h = refl

pub holds_same : (I J : Interp) → Same I J → (a : ℕ) → holds I a ≡ holds J a
holds_same I J same a = and_same (nat_lt a atom_limit) (I a) (J a) (λ e. same a (ltb-true a atom_limit e))

abbrev pub in_or : Bool → Status → Bool
in_or b Open = b
in_or b In = true
in_or b Out = false

-- the partial plan with its open atoms all in or all out
abbrev pub filled : Bool → PartialPlan → Interp
filled b p a = in_or b (place_at p a)

-- what is in, in a filled plan
abbrev pub atoms_in : Filled → Interp
atoms_in plan = filled plan.open_in plan.plan.now

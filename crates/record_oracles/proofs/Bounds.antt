-- The interpretations that agree with a partial plan lie between its two fillings. Assumes nothing.
use Rattle.std.proofs.Common.{◌≡◌, ℕ, ◌<◌, ◌≤◌, Bool, true, false, cond, ◌&&◌, ltb, leb, None, sym, refl, ◌∙◌, subst}
use Rattle.std.proofs.lemmas.Bool.{ltb-true, le-leb, lt-leb, lt-ltb, both_ways, cond-true}
use Rattle.semantics.specs.Program.{Interp, atom_limit}
use Rattle.plans.specs.declared.partial_plan.Status.{Status}
use Rattle.plans.specs.declared.partial_plan.Status.TheVariants.{Open, In, Out}
use Rattle.plans.specs.declared.partial_plan.PartialPlan.{PartialPlan}
use Rattle.plans.specs.Partial.{status_at, place_at, Admits, Agrees}
use Rattle.record_oracles.specs.Truth.{Settles}
use Rattle.record_oracles.specs.Inputs.{holds, in_or, filled}
use Rattle.record_oracles.specs.Amounts.{Below, Grows}

-- what a place's status says of an input
admits_masked : (x : Bool) (s : Status) (v : Bool) → (x ≡ true → Admits s v) → Admits (cond x s Out) (x && v)
admits_masked true s v h = h refl
admits_masked false s v h = refl

pub agrees_place : (p : PartialPlan) (I : Interp) → Agrees p I → (a : ℕ) → Admits (place_at p a) (holds I a)
agrees_place p I ag a = admits_masked (ltb a atom_limit) (status_at p a) (I a) (λ e. ag a (ltb-true a atom_limit e))

in_or_masked : (b x : Bool) (s : Status) → (x && in_or b (cond x s Out)) ≡ in_or b (cond x s Out)
in_or_masked b true s = refl
in_or_masked b false s = refl

pub holds_filled : (b : Bool) (p : PartialPlan) (a : ℕ) → holds (filled b p) a ≡ filled b p a
holds_filled b p a = in_or_masked b (ltb a atom_limit) (status_at p a)

admits_in_or : (b : Bool) (s : Status) → Admits s (in_or b s)
admits_in_or b Open = tt
admits_in_or b In = refl
admits_in_or b Out = refl

pub filled_agrees : (b : Bool) (p : PartialPlan) → Agrees p (filled b p)
filled_agrees b p a lt =
    subst (λ (s : Status). Admits (status_at p a) (in_or b s)) (sym (cond-true (ltb a atom_limit) (status_at p a) Out (lt-ltb a atom_limit lt)))
    (admits_in_or b (status_at p a))

low_in : (s : Status) (v : Bool) → Admits s v → in_or false s ≡ true → v ≡ true
low_in Open v h e = absurd (both_ways false refl e)
low_in In v h e = h
low_in Out v h e = absurd (both_ways false refl e)

high_in : (s : Status) (v : Bool) → Admits s v → v ≡ true → in_or true s ≡ true
high_in Open v h e = refl
high_in In v h e = refl
high_in Out v h e = absurd (both_ways v h e)

pub low_below : (p : PartialPlan) (I : Interp) → Agrees p I → Below (filled false p) I
low_below p I ag a e = low_in (place_at p a) (holds I a) (agrees_place p I ag a) (sym (holds_filled false p a) ∙ e)

pub below_high : (p : PartialPlan) (I : Interp) → Agrees p I → Below I (filled true p)
below_high p I ag a e = holds_filled true p a ∙ high_in (place_at p a) (holds I a) (agrees_place p I ag a) e

-- an amount that only grows as more inputs come in, against a bound
module _ (f : Interp → ℕ) (grows : Grows f) (bound : ℕ) (p : PartialPlan) where
  pub differs_between : f (filled false p) < bound → bound ≤ f (filled true p) → Settles (λ I. leb bound (f I)) p None
  differs_between low high = record {
    one = filled true p;
    other = filled false p;
    one_agrees = filled_agrees true p;
    other_agrees = filled_agrees false p;
    one_true = le-leb bound (f (filled true p)) high;
    other_false = lt-leb bound (f (filled false p)) low;
  }

-- The reply of a list of sources, by what its source settles. Assumes nothing.
use Rattle.std.proofs.Common.{◌≡◌, ℕ, zero, suc, ◌<◌, Bool, true, false, cond, List, [], ◌∷◌, length, get_or, Some, None, Option, sym, refl, ap, ◌∙◌, subst, arith}
use Rattle.std.proofs.lemmas.Bool.{both_ways}
use Rattle.std.specs.Option.{option_map_or}
use Rattle.semantics.specs.Program.{Interp, Same, Meaning}
use Rattle.plans.specs.declared.partial_plan.PartialPlan.{PartialPlan}
use Rattle.plans.specs.Partial.{Agrees, Decided, status_at}
use Rattle.plans.proofs.Partial.{settled}
use Rattle.oracles.specs.Answers.{Answers}
use Rattle.oracles.specs.declared.oracle.Reply.{Reply}
use Rattle.oracles.specs.declared.oracle.Reply.TheVariants.{Yes, No, Open}
use Rattle.record_oracles.specs.Truth.{Truth, Differs, Settles, Sharp}
use Rattle.record_oracles.specs.Listed.{listed}

-- below the length no default is read
pub listed_at : {S : Type 0} (t : S → Truth) (ss : List S) (n : ℕ) (d : S) → n < length ss → listed t ss n ≡ t (get_or ss n d)
listed_at t [] n d lt = absurd (omega arith)
listed_at t (s ∷ ss) zero d lt = refl
listed_at t (s ∷ ss) (suc n) d lt = listed_at t ss n d (omega arith)

-- with no atom open, the interpretations that agree are the same
agree_same : (p : PartialPlan) (I J : Interp) → Decided p → Agrees p I → Agrees p J → Same I J
agree_same p I J d hi hj a lt =
    settled (status_at p a) (I a) (d a lt) (hi a lt) ∙ sym (settled (status_at p a) (J a) (d a lt) (hj a lt))

pub undecided : (t : Truth) (p : PartialPlan) → Differs t.on p → Decided p → ⊥
undecided t p d h =
    both_ways (t.on d.other) d.other_false
    (t.local d.other d.one (agree_same p d.other d.one h d.other_agrees d.one_agrees) ∙ d.one_true)

-- what an element settles is what its place in the list settles
pub settles_at : {S : Type 0} (t : S → Truth) (ss : List S) (n : ℕ) (s : S) (p : PartialPlan) (r : Option Bool) → n < length ss → s ≡ get_or ss n s → Settles (t s).on p r → Settles (listed t ss n).on p r
settles_at t ss n s p r lt is h =
    subst (λ (u : Truth). Settles u.on p r) (ap t is ∙ sym (listed_at t ss n s lt)) h

-- the reply by what is settled of a source that there is
module _ (m : Meaning) (n : ℕ) (p : PartialPlan) (lt : n < m.count) where
  abbrev Told : Reply → Type 0
  Told r = Answers m n p r × Sharp m n p r

  told : (t : Option Bool) → Settles (m.truth n) p t → Told (option_map_or (λ b. cond b Yes No) t Open)
  told (Some true) h = ((lt, h), tt)
  told (Some false) h = ((lt, h), tt)
  told None h = ((lt, undecided (record { on = m.truth n; local = m.local n }) p h), h)

  pub replied : (t : Option Bool) → Settles (m.truth n) p t → (r : Reply) → r ≡ option_map_or (λ b. cond b Yes No) t Open → Answers m n p r × Sharp m n p r
  replied t h r e = subst Told (sym e) (told t h)

-- What a partial plan says of an atom, and which interpretations agree with it. Assumes nothing.
use Rattle.std.specs.Prelude.{◌≡◌, ℕ, zero, suc, ◌+◌, ◌<◌, Bool, true, false, cond, ◌&&◌, Some, None, Option, ◌==◌, ◌≢◌, nat_lt, slice_index_or}
use Rattle.semantics.specs.Program.{Interp, atom_limit, ◌∖◌}
use Rattle.plans.specs.declared.partial_plan.Status.{Status}
use Rattle.plans.specs.declared.partial_plan.Status.TheVariants.{Open, In, Out}
use Rattle.plans.specs.declared.partial_plan.PartialPlan.{PartialPlan}

abbrev pub status_at : PartialPlan → ℕ → Status
status_at p a = slice_index_or p.marks a Open

-- the status of a place of an atom list: what is no atom is out
abbrev pub place_at : PartialPlan → ℕ → Status
place_at p a = cond (nat_lt a atom_limit) (status_at p a) Out

-- a status leaves a truth value possible
abbrev pub Admits : Status → Bool → Type 0
Admits Open b = Unit {0}
Admits In b = b ≡ true
Admits Out b = b ≡ false

-- an interpretation agrees with each decided atom
abbrev pub Agrees : PartialPlan → Interp → Type 0
Agrees p I = (a : ℕ) → a < atom_limit → Admits (status_at p a) (I a)

-- no atom is open
abbrev pub Decided : PartialPlan → Type 0
Decided p = (a : ℕ) → a < atom_limit → status_at p a ≢ Open

abbrev pub is_in : Status → Bool
is_in Open = false
is_in In = true
is_in Out = false

-- the interpretation of a partial plan, its open atoms out
abbrev pub full : PartialPlan → Interp
full p a = nat_lt a atom_limit && is_in (status_at p a)

-- an interpretation that a partial plan leaves possible
pub record Within (p : PartialPlan) (I : Interp) : Type 0 where
  pub small : (a : ℕ) → I a ≡ true → a < atom_limit
  pub agrees : Agrees p I

-- an open atom
pub record Opened (p : PartialPlan) (a : ℕ) : Type 0 where
  pub is_atom : a < atom_limit
  pub undecided : status_at p a ≡ Open

-- q is p but for the status of one atom
abbrev pub Decides : PartialPlan → ℕ → Status → PartialPlan → Type 0
Decides p a s q = (c : ℕ) → c < atom_limit → status_at q c ≡ cond (c == a) s (status_at p c)

abbrev pub opened : Status → Status
opened Open = Open
opened In = Open
opened Out = Out

-- each atom that is in p is open in q, and every other as it was
abbrev pub Opens : PartialPlan → PartialPlan → Type 0
Opens p q = (a : ℕ) → a < atom_limit → status_at q a ≡ opened (status_at p a)

-- the truth of an atom, where the status settles it
abbrev pub truth_of : Status → Option Bool
truth_of Open = None
truth_of In = Some true
truth_of Out = Some false

abbrev pub LowestOpen : PartialPlan → Option ℕ → Type 0
LowestOpen p None = Decided p
LowestOpen p (Some a) = Opened p a × ((c : ℕ) → c < a → status_at p c ≢ Open)

-- the atoms of the plan that do not stay
abbrev pub removed : PartialPlan → PartialPlan → Interp
removed plan stays = full plan ∖ full stays

abbrev pub open_one : Status → ℕ
open_one Open = 1
open_one In = 0
open_one Out = 0

-- how many of the numbers below n are open
unfoldable pub open_below : ℕ → PartialPlan → ℕ
open_below zero p = 0
open_below (suc n) p = open_one (status_at p n) + open_below n p

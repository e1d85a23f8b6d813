-- What a partial plan settles of a literal, and what it leaves to satisfy a rule. Assumes nothing.
use Rattle.std.specs.Prelude.{◌≡◌, ℕ, ◌<◌, Bool, true, false, cond, ◌⊎◌, List, length, Some, None, Option, ◌==◌, slice_index, slice_index_or}
use Rattle.semantics.specs.Program.{Interp, Meaning}
use Rattle.plans.specs.Partial.{Decided, Within, Opened}
use Rattle.plans.specs.declared.partial_plan.PartialPlan.{PartialPlan}
use Rattle.records.specs.declared.literal.Literal.{Literal}
use Rattle.records.specs.declared.literal.Literal.TheVariants.{Atom, NotAtom, Source, NotSource}
use Rattle.records.specs.declared.row.RuleRow.{RuleRow}
use Rattle.judge.specs.declared.ways.Ways.{Ways}
use Rattle.judge.specs.declared.ways.Ways.TheVariants.{NoWay, Keep, Remove, Several}
use Rattle.rulebook.specs.Rules.{place_true, place_known}

-- why a place of a body is not settled
abbrev pub Unsettled : Meaning → PartialPlan → Option Literal → Type 0
Unsettled m p None = ⊥
Unsettled m p (Some (Atom a)) = Opened p a
Unsettled m p (Some (NotAtom a)) = Opened p a
Unsettled m p (Some (Source s)) = place_known m (Some (Source s)) ≡ true → Decided p → ⊥
Unsettled m p (Some (NotSource s)) = place_known m (Some (NotSource s)) ≡ true → Decided p → ⊥

-- what an evaluation says of a place of a body: its truth, or that it is not settled
abbrev pub Tells : Meaning → PartialPlan → Option Literal → Option Bool → Type 0
Tells m p t None = Unsettled m p t
Tells m p t (Some v) = (K : Interp) → Within p K → place_true m K t ≡ v

-- what is left of a choice between ways in which Q can come true, where N is a premise
abbrev pub Leaves : PartialPlan → (Interp → Type 0) → Type 0 → Ways → Type 0
Leaves p Q N NoWay = (K : Interp) → Within p K → Q K → ⊥
Leaves p Q N (Keep a) = Opened p a × ((K : Interp) → Within p K → Q K → K a ≡ true)
Leaves p Q N (Remove a) = Opened p a × ((K : Interp) → Within p K → Q K → K a ≡ false)
Leaves p Q N Several = N → Decided p → ⊥

-- what follows for the open atoms if Q is to hold
abbrev pub Asks : PartialPlan → (Interp → Type 0) → Type 0 → Ways → Type 0
Asks p Q N NoWay = (K : Interp) → Within p K → Q K → ⊥
Asks p Q N (Keep a) = Opened p a × ((K : Interp) → Within p K → Q K → K a ≡ true)
Asks p Q N (Remove a) = Opened p a × ((K : Interp) → Within p K → Q K → K a ≡ false)
Asks p Q N Several = N → Decided p → (K : Interp) → Within p K → Q K

-- one of the first n head atoms is in
pub record HeadIn (head : List ℕ) (n : ℕ) (K : Interp) : Type 0 where
  pub place : ℕ
  pub before : place < n
  pub in_plan : K (slice_index head place) ≡ true

-- one of the first n literals is false
pub record Fails (m : Meaning) (body : List (Option Literal)) (n : ℕ) (K : Interp) : Type 0 where
  pub place : ℕ
  pub before : place < n
  pub fails : place_true m K (slice_index_or body place None) ≡ false

-- a row is satisfied by its first h head atoms and n literals
abbrev pub Meets : Meaning → RuleRow → ℕ → ℕ → Interp → Type 0
Meets m r h n K = HeadIn r.head h K ⊎ Fails m r.body n K

abbrev pub Sat : Meaning → RuleRow → Interp → Type 0
Sat m r K = Meets m r (length r.head) (length r.body) K

-- every source of a body is known
abbrev pub Known : Meaning → List (Option Literal) → Type 0
Known m ts = (k : ℕ) → k < length ts → place_known m (slice_index_or ts k None) ≡ true

-- the ways of two together
abbrev pub ways_and : Ways → Ways → Ways
ways_and NoWay x = x
ways_and (Keep a) NoWay = Keep a
ways_and (Keep a) (Keep c) = cond (a == c) (Keep a) Several
ways_and (Keep a) (Remove c) = Several
ways_and (Keep a) Several = Several
ways_and (Remove a) NoWay = Remove a
ways_and (Remove a) (Keep c) = Several
ways_and (Remove a) (Remove c) = cond (a == c) (Remove a) Several
ways_and (Remove a) Several = Several
ways_and Several x = Several

-- how to make a place false that is not settled
abbrev pub way_to_fail : Option Literal → Ways
way_to_fail None = Several
way_to_fail (Some (Atom a)) = Remove a
way_to_fail (Some (NotAtom a)) = Keep a
way_to_fail (Some (Source s)) = Several
way_to_fail (Some (NotSource s)) = Several

abbrev pub is_several : Ways → Bool
is_several NoWay = false
is_several (Keep a) = false
is_several (Remove a) = false
is_several Several = true

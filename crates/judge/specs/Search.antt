-- What a search of the sets that a partial plan leaves finds. Assumes nothing.
use Rattle.std.specs.Prelude.{◌≡◌, ℕ, ◌<◌, Bool, true, false, List, length, get_or, Some, None, Option, slice_index_or}
use Rattle.semantics.specs.Program.{Interp, Meaning, body_true}
use Rattle.plans.specs.Partial.{full, Within}
use Rattle.plans.specs.declared.partial_plan.PartialPlan.{PartialPlan}
use Rattle.records.specs.declared.row.RuleRow.{RuleRow}
use Rattle.rulebook.specs.Rules.{rule_of, no_row}
use Rattle.judge.specs.Ways.{Sat, Known}

-- which rows belong to the reduct: the plan makes their bodies true
abbrev pub Live : Meaning → Interp → List RuleRow → List Bool → Type 0
Live m I rows live = (k : ℕ) → k < length rows → slice_index_or live k false ≡ body_true m I (rule_of (slice_index_or rows k no_row))

-- the live ones of the first n rows are satisfied
abbrev pub SatAll : Meaning → List RuleRow → List Bool → ℕ → Interp → Type 0
SatAll m rows live n K = (k : ℕ) → k < n → slice_index_or live k false ≡ true → Sat m (slice_index_or rows k no_row) K

abbrev pub KnownAll : Meaning → List RuleRow → Type 0
KnownAll m rows = (k : ℕ) → k < length rows → Known m (get_or rows k no_row).body

-- a set that lacks an atom of the plan and satisfies the live rows
pub record Fit (m : Meaning) (rows : List RuleRow) (live : List Bool) (plan : PartialPlan) (K : Interp) : Type 0 where
  pub lacks : (a : ℕ) × (full plan a ≡ true) × (K a ≡ false)
  pub meets : SatAll m rows live (length rows) K

-- K has the lowest atom on which the two differ
pub record Sooner (K L : Interp) : Type 0 where
  pub place : ℕ
  pub same : (c : ℕ) → c < place → K c ≡ L c
  pub has : K place ≡ true
  pub lacks : L place ≡ false

-- the first of the interpretations that p leaves and that F holds of
abbrev pub Found : (Interp → Type 0) → PartialPlan → Option PartialPlan → Type 0
Found F p None = (K : Interp) → Within p K → F K → ⊥
Found F p (Some q) = Within p (full q) × F (full q) × ((K : Interp) → Within p K → F K → Sooner K (full q) → ⊥)

-- whether an atom of the plan is removed
abbrev pub Lacking : PartialPlan → PartialPlan → Bool → Type 0
Lacking plan rest true = (a : ℕ) × (full plan a ≡ true) × (full rest a ≡ false)
Lacking plan rest false = (a : ℕ) → full plan a ≡ true → full rest a ≡ true

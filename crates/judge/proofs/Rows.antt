-- Rows read one by one. Assumes nothing.
use Rattle.std.proofs.Common.{◌≡◌, ℕ, zero, suc, min, not, ◌+◌, ◌<◌, ◌≤◌, Bool, true, false, cond, ◌&&◌, ◌||◌, ltb, List, [], ◌∷◌, length, get_or, Some, None, Option, sym, refl, ap, ◌∙◌, ◌⊎◌, ⊎_elim, arith}
use mathlib.Core.Option.{Option as FoundIn, none, some}
use Rattle.std.specs.Bool.{MatchBool}
use Rattle.std.specs.Option.{MatchOption}
use Rattle.std.specs.List.{zip, list_all, list_any, AllWithin, HoldsAt}
use Rattle.std.proofs.lemmas.List.Recursion.{and_is}
use Rattle.std.proofs.lemmas.Slice.Zip.{length-zip, get_or-zip}
use Rattle.std.proofs.lemmas.Bool.{both_ways, lt-ltb}
use Rattle.semantics.specs.Program.{Interp, Plan, Meaning, any, all, literal_true, satisfied, atom_limit}
use Rattle.semantics.specs.Program as P
use Rattle.semantics.specs.Judge.{first_broken}
use Rattle.semantics.specs.Check.{literal_known, sources_known}
use Rattle.plans.specs.Partial.{Decided, full}
use Rattle.plans.specs.declared.partial_plan.PartialPlan.{PartialPlan}
use Rattle.records.specs.declared.literal.Literal.{Literal}
use Rattle.records.specs.declared.literal.Literal.TheVariants.{Atom, NotAtom, Source, NotSource}
use Rattle.records.specs.declared.row.RuleRow.{RuleRow}
use Rattle.rulebook.specs.Rules.{literal_of, head_of, body_of, rule_of, rules_of, place_true, place_known, no_row}
use Rattle.judge.specs.Search.{Live}
use Rattle.judge.specs.Outcome.{as_option}
use Rattle.judge.specs.Ways.{Unsettled, Known}

-- a place of a body more
pub body_one : (f : P.Literal → Bool) (g : Option Literal → Bool) → g None ≡ true → ((l : Literal) → g (Some l) ≡ f (literal_of l)) → (t : Option Literal) (ts : List (Option Literal)) → all f (body_of (t ∷ ts)) ≡ (g t && all f (body_of ts))
body_one f g unused used None ts = ap (λ v. v && all f (body_of ts)) (sym unused)
body_one f g unused used (Some l) ts = ap (λ v. v && all f (body_of ts)) (sym (used l))

pub known_one : (m : Meaning) (t : Option Literal) (ts : List (Option Literal)) → all (literal_known m) (body_of (t ∷ ts)) ≡ (place_known m t && all (literal_known m) (body_of ts))
known_one m = body_one (literal_known m) (place_known m) refl (λ l. refl)

pub true_one : (m : Meaning) (I : Interp) (t : Option Literal) (ts : List (Option Literal)) → all (literal_true m I) (body_of (t ∷ ts)) ≡ (place_true m I t && all (literal_true m I) (body_of ts))
true_one m I = body_one (literal_true m I) (place_true m I) refl (λ l. refl)

pub known_all : (m : Meaning) (ts : List (Option Literal)) → list_all (place_known m) ts ≡ all (literal_known m) (body_of ts)
known_all m [] = refl
known_all m (t ∷ ts) = ap (λ v. place_known m t && v) (known_all m ts) ∙ sym (known_one m t ts)

pub rows_all : (m : Meaning) (rows : List RuleRow) → list_all (λ r. all (literal_known m) (body_of r.body)) rows ≡ sources_known m (rules_of rows)
rows_all m [] = refl
rows_all m (r ∷ rows) = ap (λ v. all (literal_known m) (body_of r.body) && v) (rows_all m rows)

pub unsettled_never : (b : Meaning) (p : PartialPlan) (t : Option Literal) → place_known b t ≡ true → Decided p → Unsettled b p t → ⊥
unsettled_never b p None k d u = u
unsettled_never b p (Some (Atom a)) k d u = d a u.is_atom u.undecided
unsettled_never b p (Some (NotAtom a)) k d u = d a u.is_atom u.undecided
unsettled_never b p (Some (Source s)) k d u = u k d
unsettled_never b p (Some (NotSource s)) k d u = u k d

-- no atom is open, so what a plan does not make true in a body is false
module _ (m : Meaning) (p : PartialPlan) (ts : List (Option Literal)) (known : Known m ts) (decided : Decided p) where
  abbrev Searched : Bool → Type 0
  Searched r = MatchBool r (AllWithin (λ t. place_true m (full p) t ≡ true) ts 0 (length ts)) ((k : ℕ) × (k < length ts) × HoldsAt (λ t. (place_true m (full p) t ≡ false) ⊎ Unsettled m p t) ts k)

  each_true : (r : Bool) → Searched r → r ≡ true → (i : ℕ) → i < length ts → place_true m (full p) (get_or ts i None) ≡ true
  each_true true h e i lt = h i None (omega arith) lt
  each_true false h e i lt = absurd (both_ways false refl e)

  one_false : (r : Bool) → Searched r → r ≡ false → (i : ℕ) × (i < length ts) × (place_true m (full p) (get_or ts i None) ≡ false)
  one_false true h e = absurd (both_ways true e refl)
  one_false false h e = (
    h.0,
    h.1,
    ⊎_elim
        (λ (f : place_true m (full p) (get_or ts h.0 None) ≡ false). f)
        (λ (u : Unsettled m p (get_or ts h.0 None)). absurd (unsettled_never m p (get_or ts h.0 None) (known h.0 h.1) decided u))
        (h.2 None),
  )

  pub holds_all : (r : Bool) → Searched r → r ≡ all (literal_true m (full p)) (body_of ts)
  holds_all r h =
      and_is (λ l. all (literal_true m (full p)) (body_of l)) (place_true m (full p)) refl (true_one m (full p)) ts None r (each_true r h) (one_false r h)

-- a place of a head more, where only atoms are in
pub head_one : (K : Interp) → Plan K → (a : ℕ) (hs : List ℕ) → any K (head_of (a ∷ hs)) ≡ (K a || any K (head_of hs))
head_one K small a hs = go (ltb a atom_limit) (K a) (λ e. lt-ltb a atom_limit (small a e)) refl
  where
    go : (x v : Bool) → (v ≡ true → x ≡ true) → K a ≡ v → any K (cond x (a ∷ head_of hs) (head_of hs)) ≡ (v || any K (head_of hs))
    go true v h e = ap (λ (u : Bool). u || any K (head_of hs)) e
    go false true h e = absurd (both_ways false refl (h refl))
    go false false h e = refl

pub head_any : (K : Interp) → Plan K → (hs : List ℕ) → list_any K hs ≡ any K (head_of hs)
head_any K small [] = refl
head_any K small (a ∷ hs) = ap (λ v. K a || v) (head_any K small hs) ∙ sym (head_one K small a hs)

-- what the search for a broken rule says, by whether the first is satisfied
abbrev first_or : Meaning → Interp → ℕ → List RuleRow → Bool → FoundIn ℕ
first_or m I n rows t = elim t [ false ↦ some n | true ↦ first_broken m I (suc n) (rules_of rows) ]

-- the lowest rule that is broken
pub broken_first : (m : Meaning) (I : Interp) (rows : List RuleRow) (n i : ℕ) → i < length rows → satisfied m I (rule_of (get_or rows i no_row)) ≡ false → ((k : ℕ) → k < i → satisfied m I (rule_of (get_or rows k no_row)) ≡ true) → first_broken m I n (rules_of rows) ≡ some (n + i)
broken_first m I [] n i lt e before = absurd (omega arith)
broken_first m I (r ∷ rows) n zero lt e before = ap (first_or m I n rows) e ∙ ap some (let s : n ≡ n + 0 = omega arith in s)
broken_first m I (r ∷ rows) n (suc i) lt e before =
    ap (first_or m I n rows) (before 0 (omega arith))
    ∙ broken_first m I rows (suc n) i (omega arith) e (λ k l. before (suc k) (omega arith))
    ∙ ap some (let s : suc n + i ≡ n + suc i = omega arith in s)

pub broken_none : (m : Meaning) (I : Interp) (rows : List RuleRow) (n : ℕ) → ((k : ℕ) → k < length rows → satisfied m I (rule_of (get_or rows k no_row)) ≡ true) → first_broken m I n (rules_of rows) ≡ none
broken_none m I [] n sat = refl
broken_none m I (r ∷ rows) n sat = ap (first_or m I n rows) (sat 0 (omega arith)) ∙ broken_none m I rows (suc n) (λ k l. sat (suc k) (omega arith))

-- a live row with no head atom in
abbrev pub breaks : Interp → RuleRow × Bool → Bool
breaks I p = p.1 && not (any I (head_of p.0.head))

module _ (m : Meaning) (I : Interp) (rows : List RuleRow) (live : List Bool) (exact : Live m I rows live) (long : length rows ≤ length live) where
  broken_is : (b a : Bool) → (not b || a) ≡ not (b && not a)
  broken_is true true = refl
  broken_is true false = refl
  broken_is false a = refl

  sat_at : (k : ℕ) → k < length rows → satisfied m I (rule_of (get_or rows k no_row)) ≡ not (breaks I (get_or (zip rows live) k (no_row, false)))
  sat_at k lt =
      broken_is _ _
      ∙ ap (λ (b : Bool). not (b && not (any I (head_of (get_or rows k no_row).head)))) (sym (exact k lt))
      ∙ ap (λ (p : RuleRow × Bool). not (breaks I p)) (sym (get_or-zip rows live k (no_row, false) lt (omega arith)))

  zipped : length (zip rows live) ≡ length rows
  zipped = length-zip rows live ∙ (let e : min (length rows) (length live) ≡ length rows = omega arith in e)

  pub lowest : (r : Option ℕ) → MatchOption r (AllWithin (λ p. breaks I p ≡ false) (zip rows live) 0 (length (zip rows live))) (λ i. (i < length (zip rows live)) × HoldsAt (λ p. breaks I p ≡ true) (zip rows live) i × AllWithin (λ p. breaks I p ≡ false) (zip rows live) 0 i) → as_option r ≡ first_broken m I 0 (rules_of rows)
  lowest None none_breaks =
      sym (broken_none m I rows 0 (λ k lt. sat_at k lt ∙ ap not (none_breaks k (no_row, false) (omega arith) (omega (arith, zipped)))))
  lowest (Some i) first =
      let lt : i < length rows = omega (arith, zipped, first.0) in
      let at : 0 + i ≡ i = omega arith in
      ap some (sym at)
      ∙ sym (broken_first m I rows 0 i lt (sat_at i lt ∙ ap not (first.1 (no_row, false))) (λ k l. sat_at k (omega arith) ∙ ap not (first.2 k (no_row, false) (omega arith) l)))

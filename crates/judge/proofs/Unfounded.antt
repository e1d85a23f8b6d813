-- What the search finds is the earliest unfounded set. Assumes nothing.
use Rattle.std.proofs.Common.{◌≡◌, ℕ, ◌<◌, Bool, true, false, not, ◌&&◌, List, get_or, Some, None, sym, refl, ap, ◌∙◌, subst}
use mathlib.Core.Path.{fun_ext}
use Rattle.std.proofs.lemmas.Bool.{both_ways, and_parts, not-true}
use Rattle.semantics.specs.Program.{Interp, Rule, Meaning, body_true, satisfied, Model, Subset, Unfounded, UnfoundedFree, Earlier, Earliest, ◌∖◌, atom_limit}
use Rattle.semantics.proofs.Facts.{kept_from, kept_to}
use Rattle.semantics.proofs.Reduct.{reduct, Proper, unfounded_reduct}
use Rattle.plans.specs.Partial.{Admits, Decided, status_at, is_in, full, Within, opened, Opens, removed}
use Rattle.plans.specs.declared.partial_plan.PartialPlan.{PartialPlan}
use Rattle.plans.specs.declared.partial_plan.Status.{Status}
use Rattle.plans.specs.declared.partial_plan.Status.TheVariants.{In, Out, Open}
use Rattle.plans.proofs.Partial.{full_at, full_within}
use Rattle.records.specs.declared.row.RuleRow.{RuleRow}
use Rattle.rulebook.specs.Rules.{rules_of, no_row}
use Rattle.judge.specs.Search.{Live, Fit, Sooner, Found}
use Rattle.judge.proofs.Satisfied.{sat_to, sat_from, each_row, rows_each}

back : (i j : Bool) → (j ≡ true → i ≡ true) → (i && not (i && not j)) ≡ j
back true true h = refl
back true false h = refl
back false true h = h refl
back false false h = refl

module _ (m : Meaning) (rows : List RuleRow) (live : List Bool) (plan rest : PartialPlan) (is_live : Live m (full plan) rows live) (loose : Opens plan rest) where
  abbrev I : Interp
  I = full plan

  abbrev rules : List Rule
  rules = rules_of rows

  -- the search ranges over the subsets of the plan
  inside : (s : Status) (i k : Bool) → i ≡ is_in s → (k ≡ true → i ≡ true) → Admits (opened s) k
  inside In i k e h = tt
  inside Out i true e h = absurd (both_ways i e (h refl))
  inside Out i false e h = refl
  inside Open i k e h = tt

  outside : (s : Status) (i k : Bool) → i ≡ is_in s → (s ≡ Open → ⊥) → Admits (opened s) k → k ≡ true → i ≡ true
  outside In i k e d h t = e
  outside Out i k e d h t = absurd (both_ways k h t)
  outside Open i k e d h t = absurd (d refl)

  within_of : (K : Interp) → Subset K I → Within rest K
  within_of K sub =
      record {
        small = λ a e. (full_within plan).small a (sub a e);
        agrees = λ a lt. subst (λ (s : Status). Admits s (K a)) (sym (loose a lt)) (inside (status_at plan a) (I a) (K a) (full_at plan a lt) (sub a));
      }

  subset_of : Decided plan → (K : Interp) → Within rest K → Subset K I
  subset_of d K w a e =
      let lt = w.small a e in
      outside (status_at plan a) (I a) (K a) (full_at plan a lt) (d a lt) (subst (λ (s : Status). Admits s (K a)) (loose a lt) (w.agrees a lt)) e

  fit_of : (K : Interp) → Proper K I → Model m K (reduct m I rules) → Fit m rows live plan K
  fit_of K small red =
      record {
        lacks = small.lacks;
        meets = λ k lt e. sat_to m K (get_or rows k no_row) (each_row (λ r. body_true m I r ≡ true → satisfied m K r ≡ true) rows k lt (kept_from _ (body_true m I) rules red) (sym (is_live k lt) ∙ e));
      }

  reduct_of : (K : Interp) → ((a : ℕ) → K a ≡ true → a < atom_limit) → Fit m rows live plan K → Model m K (reduct m I rules)
  reduct_of K small f =
      kept_to _ (body_true m I) rules (rows_each (λ r. body_true m I r ≡ true → satisfied m K r ≡ true) rows (λ k lt e. sat_from m K small (get_or rows k no_row) (f.meets k lt (is_live k lt ∙ e))))

  pub free_when : Model m I rules → Found (Fit m rows live plan) rest None → UnfoundedFree rules m I
  free_when ok f =
      record {
        model = ok;
        free = λ X u. let k = (unfounded_reduct rules m I X ok).0 u in f (I ∖ X) (within_of (I ∖ X) k.1.within) (fit_of (I ∖ X) k.1 k.2);
      }

  module _ (d : Decided plan) (ok : Model m I rules) (q : PartialPlan) (f : Found (Fit m rows live plan) rest (Some q)) where
    abbrev L : Interp
    L = full q

    abbrev X : Interp
    X = removed plan q

    sub : Subset L I
    sub = subset_of d L f.0

    same : (I ∖ X) ≡ L
    same = fun_ext (λ a. back (I a) (L a) (sub a))

    proper : Proper L I
    proper = record { within = sub; lacks = f.1.lacks }

    is_unfounded : Unfounded rules m I X
    is_unfounded =
        (unfounded_reduct rules m I X ok).1 (
          λ a e. (and_parts (I a) (not (L a)) e).0,
          subst (λ (K : Interp). Proper K I) (sym same) proper,
          subst (λ (K : Interp). Model m K (reduct m I rules)) (sym same) (reduct_of L (full_within q).small f.1),
        )

    earlier : (Y : Interp) → Earlier Y X → Sooner (I ∖ Y) L
    earlier Y e =
        let parts = and_parts (I e.place) (not (L e.place)) e.has in
        record {
          place = e.place;
          same = λ c lt. ap (λ (y : Bool). I c && not y) (e.same c lt) ∙ ap (λ (K : Interp). K c) same;
          has = ap (λ (y : Bool). I e.place && not y) e.lacks ∙ with_true (I e.place) parts.0;
          lacks = not-true (L e.place) parts.1;
        }
      where
        with_true : (i : Bool) → i ≡ true → (i && true) ≡ true
        with_true true p = refl
        with_true false p = p

    first : (Y : Interp) → Unfounded rules m I Y → Earlier Y X → ⊥
    first Y u e =
        let k = (unfounded_reduct rules m I Y ok).0 u in
        f.2 (I ∖ Y) (within_of (I ∖ Y) k.1.within) (fit_of (I ∖ Y) k.1 k.2) (earlier Y e)

    pub earliest : Earliest (Unfounded rules m I) X
    earliest = record { holds = is_unfounded; first = first }

-- Ways to satisfy a rule, taken together one by one. Assumes nothing.
use Rattle.std.proofs.Common.{◌≡◌, ℕ, ◌+◌, ◌<◌, ◌≤◌, Bool, true, false, cond, eqb, ◌⊎◌, List, [], ◌∷◌, ◌++◌, length, length-append, below_more, get_or, Some, None, Option, sym, refl, subst, inl, inr, ⊎_elim, arith}
use Rattle.std.proofs.lemmas.Bool.{eqb-true, both_ways, cases_lt, not-false}
use Rattle.semantics.specs.Program.{Interp, Meaning}
use Rattle.plans.specs.Partial.{Decided, place_at, Within, Opened}
use Rattle.plans.specs.declared.partial_plan.PartialPlan.{PartialPlan}
use Rattle.plans.specs.declared.partial_plan.Status.TheVariants.{Out, Open}
use Rattle.plans.proofs.Partial.{place_out, place_open}
use Rattle.records.specs.declared.literal.Literal.{Literal}
use Rattle.records.specs.declared.literal.Literal.TheVariants.{Atom, NotAtom, Source, NotSource}
use Rattle.records.specs.declared.row.RuleRow.{RuleRow}
use Rattle.judge.specs.declared.ways.Ways.{Ways}
use Rattle.judge.specs.declared.ways.Ways.TheVariants.{NoWay, Keep, Remove, Several}
use Rattle.rulebook.specs.Rules.{place_true, place_known, no_row}
use Rattle.judge.specs.Search.{SatAll}
use Rattle.judge.specs.Ways.{Unsettled, Leaves, Asks, HeadIn, Fails, Meets, Sat, Known, ways_and, way_to_fail, is_several}

module _ (p : PartialPlan) (N : Type 0) where
  pub narrow : {Q R : Interp → Type 0} → ((K : Interp) → Within p K → R K → Q K) → (s : Ways) → Leaves p Q N s → Leaves p R N s
  narrow f NoWay h = λ K w r. h K w (f K w r)
  narrow f (Keep a) h = (h.0, λ K w r. h.1 K w (f K w r))
  narrow f (Remove a) h = (h.0, λ K w r. h.1 K w (f K w r))
  narrow f Several h = h

  either_way : {Q R : Interp → Type 0} (a : ℕ) (v : Bool) → ((K : Interp) → Within p K → Q K → K a ≡ v) → ((K : Interp) → Within p K → R K → K a ≡ v) → (K : Interp) → Within p K → Q K ⊎ R K → K a ≡ v
  either_way a v f g K w (inl q) = f K w q
  either_way a v f g K w (inr r) = g K w r

  never : (a : ℕ) → Opened p a → N → Decided p → ⊥
  never a o n d = d a o.is_atom o.undecided

  pub join_leaves : (Q R : Interp → Type 0) (s x : Ways) → Leaves p Q N s → Leaves p R N x → Leaves p (λ K. Q K ⊎ R K) N (ways_and s x)
  join_leaves Q R NoWay x h k = narrow (λ K w. ⊎_elim (λ (q : Q K). absurd (h K w q)) (λ (r : R K). r)) x k
  join_leaves Q R (Keep a) NoWay h k = (h.0, λ K w. ⊎_elim (λ (q : Q K). h.1 K w q) (λ (r : R K). absurd (k K w r)))
  join_leaves Q R (Keep a) (Keep c) h k = go (eqb a c) refl
    where
      go : (t : Bool) → eqb a c ≡ t → Leaves p (λ K. Q K ⊎ R K) N (cond t (Keep a) Several)
      go true e = (h.0, either_way a true h.1 (λ K w r. subst (λ (x : ℕ). K x ≡ true) (sym (eqb-true a c e)) (k.1 K w r)))
      go false e = never a h.0
  join_leaves Q R (Keep a) (Remove c) h k = never a h.0
  join_leaves Q R (Keep a) Several h k = k
  join_leaves Q R (Remove a) NoWay h k = (h.0, λ K w. ⊎_elim (λ (q : Q K). h.1 K w q) (λ (r : R K). absurd (k K w r)))
  join_leaves Q R (Remove a) (Keep c) h k = never a h.0
  join_leaves Q R (Remove a) (Remove c) h k = go (eqb a c) refl
    where
      go : (t : Bool) → eqb a c ≡ t → Leaves p (λ K. Q K ⊎ R K) N (cond t (Remove a) Several)
      go true e = (h.0, either_way a false h.1 (λ K w r. subst (λ (x : ℕ). K x ≡ false) (sym (eqb-true a c e)) (k.1 K w r)))
      go false e = never a h.0
  join_leaves Q R (Remove a) Several h k = k
  join_leaves Q R Several x h k = h

  pub leaves_asks : (Q : Interp → Type 0) (s : Ways) → Leaves p Q N s → Asks p Q N s
  leaves_asks Q NoWay h = h
  leaves_asks Q (Keep a) h = h
  leaves_asks Q (Remove a) h = h
  leaves_asks Q Several h = λ n d. absurd (h n d)

-- one head atom more
head_split : (head : List ℕ) (i : ℕ) (K : Interp) → HeadIn head (i + 1) K → HeadIn head i K ⊎ (K (get_or head i 0) ≡ true)
head_split head i K h =
    ⊎_elim
    (λ (lt : h.place < i). inl (record { place = h.place; before = lt; in_plan = h.in_plan }))
    (λ (ge : i ≤ h.place). inr (let e : h.place ≡ i = omega arith in subst (λ (k : ℕ). K (get_or head k 0) ≡ true) e h.in_plan))
    (cases_lt h.place i)

fail_split : (b : Meaning) (body : List (Option Literal)) (i : ℕ) (K : Interp) → Fails b body (i + 1) K → Fails b body i K ⊎ (place_true b K (get_or body i None) ≡ false)
fail_split b body i K h =
    ⊎_elim
    (λ (lt : h.place < i). inl (record { place = h.place; before = lt; fails = h.fails }))
    (λ (ge : i ≤ h.place). inr (let e : h.place ≡ i = omega arith in subst (λ (k : ℕ). place_true b K (get_or body k None) ≡ false) e h.fails))
    (cases_lt h.place i)

module _ (p : PartialPlan) (N : Type 0) (head : List ℕ) where
  pub heads_out : (i : ℕ) (s : Ways) → Leaves p (HeadIn head i) N s → place_at p (get_or head i 0) ≡ Out → Leaves p (HeadIn head (i + 1)) N s
  heads_out i s h e =
      narrow p N (λ K w q. ⊎_elim (λ (l : HeadIn head i K). l) (λ (r : K (get_or head i 0) ≡ true). absurd (both_ways _ (place_out p (get_or head i 0) e K w) r)) (head_split head i K q)) s h

  pub heads_open : (i : ℕ) (s : Ways) → Leaves p (HeadIn head i) N s → place_at p (get_or head i 0) ≡ Open → Leaves p (HeadIn head (i + 1)) N (ways_and s (Keep (get_or head i 0)))
  heads_open i s h e =
      narrow p N (λ K w q. head_split head i K q) (ways_and s (Keep (get_or head i 0)))
      (join_leaves p N (HeadIn head i) (λ K. K (get_or head i 0) ≡ true) s (Keep (get_or head i 0)) h (place_open p (get_or head i 0) e, λ K w r. r))

unsettled_leaves : (b : Meaning) (p : PartialPlan) (N : Type 0) (t : Option Literal) → (N → place_known b t ≡ true) → Unsettled b p t → Leaves p (λ K. place_true b K t ≡ false) N (way_to_fail t)
unsettled_leaves b p N None f u = absurd u
unsettled_leaves b p N (Some (Atom a)) f u = (u, λ K w e. e)
unsettled_leaves b p N (Some (NotAtom a)) f u = (u, λ K w e. not-false (K a) e)
unsettled_leaves b p N (Some (Source s)) f u = λ n d. u (f n) d
unsettled_leaves b p N (Some (NotSource s)) f u = λ n d. u (f n) d

module _ (b : Meaning) (p : PartialPlan) (r : RuleRow) where
  abbrev B : List (Option Literal)
  B = r.body

  abbrev H : ℕ
  H = length r.head

  abbrev N : Type 0
  N = Known b r.body

  pub body_none : (i : ℕ) (s : Ways) → length r.head ≤ i → Leaves p (HeadIn r.head i) N s → Leaves p (Meets b r H 0) N s
  body_none i s ge h =
      narrow p N
      (λ K w. ⊎_elim
      (λ (x : HeadIn r.head H K). record { place = x.place; before = (let lt = x.before in omega arith); in_plan = x.in_plan })
      (λ (x : Fails b B 0 K). absurd (let lt = x.before in omega arith)))
      s h

  body_split : (i : ℕ) (K : Interp) → Meets b r H (i + 1) K → Meets b r H i K ⊎ (place_true b K (get_or B i None) ≡ false)
  body_split i K (inl x) = inl (inl x)
  body_split i K (inr x) = ⊎_elim (λ (l : Fails b B i K). inl (inr l)) (λ (f : place_true b K (get_or B i None) ≡ false). inr f) (fail_split b B i K x)

  pub body_true : (i : ℕ) (s : Ways) → Leaves p (Meets b r H i) N s → ((K : Interp) → Within p K → place_true b K (get_or B i None) ≡ true) → Leaves p (Meets b r H (i + 1)) N s
  body_true i s h e =
      narrow p N (λ K w q. ⊎_elim (λ (l : Meets b r H i K). l) (λ (f : place_true b K (get_or B i None) ≡ false). absurd (both_ways _ f (e K w))) (body_split i K q)) s h

  pub body_unsure : (i : ℕ) (s : Ways) → i < length B → Leaves p (Meets b r H i) N s → Unsettled b p (get_or B i None) → Leaves p (Meets b r H (i + 1)) N (ways_and s (way_to_fail (get_or B i None)))
  body_unsure i s lt h u =
      narrow p N (body_split' i) (ways_and s (way_to_fail (get_or B i None)))
      (join_leaves p N (Meets b r H i) (λ K. place_true b K (get_or B i None) ≡ false) s (way_to_fail (get_or B i None)) h (unsettled_leaves b p N (get_or B i None) (λ n. n i lt) u))
    where
      body_split' : (i : ℕ) (K : Interp) → Within p K → Meets b r H (i + 1) K → Meets b r H i K ⊎ (place_true b K (get_or B i None) ≡ false)
      body_split' i K w q = body_split i K q

  pub done : (i : ℕ) (s : Ways) → length B ≤ i → Leaves p (Meets b r H i) N s → Asks p (Sat b r) N s
  done i s ge h =
      leaves_asks p N (Sat b r) s
      (narrow p N {Q = Meets b r H i}
      (λ K w. ⊎_elim
      (λ (x : HeadIn r.head H K). inl x)
      (λ (x : Fails b B (length B) K). inr (record { place = x.place; before = (let lt = x.before in omega arith); fails = x.fails })))
      s h)

-- what one rule asks is asked by all
pub asked_by_all : (p : PartialPlan) (N M : Type 0) (Q R : Interp → Type 0) → ((K : Interp) → R K → Q K) → (s : Ways) → is_several s ≡ false → Asks p Q N s → Asks p R M s
asked_by_all p N M Q R f NoWay e h = λ K w r. h K w (f K r)
asked_by_all p N M Q R f (Keep a) e h = (h.0, λ K w r. h.1 K w (f K r))
asked_by_all p N M Q R f (Remove a) e h = (h.0, λ K w r. h.1 K w (f K r))
asked_by_all p N M Q R f Several e h = absurd (both_ways true e refl)

-- one row more that is satisfied if it is live
pub sat_more : {X : Type 0} (m : Meaning) (rows : List RuleRow) (live : List Bool) (K : Interp) (xs : List X) (x : X) → SatAll m rows live (length xs) K → (get_or live (length xs) false ≡ true → Sat m (get_or rows (length xs) no_row) K) → SatAll m rows live (length (xs ++ x ∷ [])) K
sat_more m rows live K xs x all one k lt e =
    let n : length (xs ++ x ∷ []) ≡ length xs + 1 = length-append xs (x ∷ []) in
    below_more (λ i. get_or live i false ≡ true → Sat m (get_or rows i no_row) K) (length xs) all one k (omega arith) e

pub several_is : (s : Ways) → is_several s ≡ true → s ≡ Several
several_is NoWay e = absurd (both_ways false refl e)
several_is (Keep a) e = absurd (both_ways false refl e)
several_is (Remove a) e = absurd (both_ways false refl e)
several_is Several e = refl

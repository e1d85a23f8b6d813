-- Partial plans and the interpretations that they leave. Assumes nothing.
use Rattle.std.proofs.Common.{◌≡◌, ℕ, zero, suc, ◌+◌, ◌<◌, ◌≤◌, Bool, true, false, cond, ◌&&◌, eqb, ltb, sym, refl, ap, ◌∙◌, subst, ⊎_elim, arith}
use mathlib.Core.Path.{fun_ext}
use Rattle.std.proofs.lemmas.Bool.{ltb-true, ltb-false, lt-ltb, both_ways, cases_Bool, cases_lt, cases_eq, and_parts, cond-true, cond-false, eq-eqb, ne_eqb, false_from_ne_true}
use Rattle.semantics.specs.Program.{Interp, atom_limit}
use Rattle.semantics.specs.Check.{size_below}
use Rattle.plans.specs.declared.partial_plan.Status.{Status}
use Rattle.plans.specs.declared.partial_plan.Status.TheVariants.{Open, In, Out}
use Rattle.plans.specs.declared.partial_plan.PartialPlan.{PartialPlan}
use Rattle.plans.specs.Partial.{status_at, place_at, Admits, Decided, is_in, full, Within, Opened, Decides, open_one, open_below}

true_and : (x y : Bool) → x ≡ true → (x && y) ≡ y
true_and true y e = refl
true_and false y e = absurd (both_ways false refl e)

pub full_at : (p : PartialPlan) (a : ℕ) → a < atom_limit → full p a ≡ is_in (status_at p a)
full_at p a lt = true_and (ltb a atom_limit) _ (lt-ltb a atom_limit lt)

full_masked : (x : Bool) (s : Status) → (x && is_in s) ≡ is_in (cond x s Out)
full_masked true s = refl
full_masked false s = refl

pub full_place : (p : PartialPlan) (a : ℕ) → full p a ≡ is_in (place_at p a)
full_place p a = full_masked (ltb a atom_limit) (status_at p a)

-- what a place's status says of the interpretations that are left
out≢in : Out ≡ In → ⊥
out≢in e = let z : ◌≡◌ {A = ℕ} 0 1 = cc in omega arith

out≢open : Out ≡ Open → ⊥
out≢open e = let z : ◌≡◌ {A = ℕ} 0 1 = cc in omega arith

beyond : (p : PartialPlan) (K : Interp) (a : ℕ) → Within p K → ltb a atom_limit ≡ false → K a ≡ false
beyond p K a w e = ⊎_elim (λ (t : K a ≡ true). absurd (let lt = w.small a t in let ge = ltb-false a atom_limit e in omega arith)) (λ (f : K a ≡ false). f) (cases_Bool (K a))

pub place_in : (p : PartialPlan) (a : ℕ) → place_at p a ≡ In → (K : Interp) → Within p K → K a ≡ true
place_in p a e K w =
    ⊎_elim
    (λ (t : ltb a atom_limit ≡ true). subst (λ (s : Status). Admits s (K a)) (sym (cond-true (ltb a atom_limit) (status_at p a) Out t) ∙ e) (w.agrees a (ltb-true a atom_limit t)))
    (λ (f : ltb a atom_limit ≡ false). absurd (out≢in (sym (cond-false (ltb a atom_limit) (status_at p a) Out f) ∙ e)))
    (cases_Bool (ltb a atom_limit))

pub place_out : (p : PartialPlan) (a : ℕ) → place_at p a ≡ Out → (K : Interp) → Within p K → K a ≡ false
place_out p a e K w =
    ⊎_elim
    (λ (t : ltb a atom_limit ≡ true). subst (λ (s : Status). Admits s (K a)) (sym (cond-true (ltb a atom_limit) (status_at p a) Out t) ∙ e) (w.agrees a (ltb-true a atom_limit t)))
    (λ (f : ltb a atom_limit ≡ false). beyond p K a w f)
    (cases_Bool (ltb a atom_limit))

pub place_open : (p : PartialPlan) (a : ℕ) → place_at p a ≡ Open → Opened p a
place_open p a e =
    ⊎_elim
    (λ (t : ltb a atom_limit ≡ true). record { is_atom = ltb-true a atom_limit t; undecided = sym (cond-true (ltb a atom_limit) (status_at p a) Out t) ∙ e })
    (λ (f : ltb a atom_limit ≡ false). absurd (out≢open (sym (cond-false (ltb a atom_limit) (status_at p a) Out f) ∙ e)))
    (cases_Bool (ltb a atom_limit))

-- the interpretation with the open atoms out is left
admits_in : (s : Status) → Admits s (is_in s)
admits_in Open = tt
admits_in In = refl
admits_in Out = refl

pub full_within : (p : PartialPlan) → Within p (full p)
full_within p =
    record {
      small = λ a e. ltb-true a atom_limit (and_parts (ltb a atom_limit) (is_in (status_at p a)) e).0;
      agrees = λ a lt. subst (λ (x : Bool). Admits (status_at p a) x) (sym (full_at p a lt)) (admits_in (status_at p a));
    }

pub settled : (s : Status) (x : Bool) → (s ≡ Open → ⊥) → Admits s x → x ≡ is_in s
settled Open x d h = absurd (d refl)
settled In x d h = h
settled Out x d h = h

-- with no atom open it is the only one
pub only_full : (p : PartialPlan) (K : Interp) → Decided p → Within p K → K ≡ full p
only_full p K d w = fun_ext (λ a. ⊎_elim (λ (lt : a < atom_limit). inside a lt) (λ (ge : atom_limit ≤ a). outside a ge) (cases_lt a atom_limit))
  where
    inside : (a : ℕ) → a < atom_limit → K a ≡ full p a
    inside a lt = settled (status_at p a) (K a) (d a lt) (w.agrees a lt) ∙ sym (full_at p a lt)

    outside : (a : ℕ) → atom_limit ≤ a → K a ≡ full p a
    outside a ge =
        false_from_ne_true (K a) (λ e. let lt = w.small a e in omega arith)
        ∙ sym (false_from_ne_true (full p a) (λ e. let lt = (full_within p).small a e in omega arith))

-- one open atom decided
module _ (p q : PartialPlan) (a : ℕ) (s : Status) (o : Opened p a) (d : Decides p a s q) where
  decide_here : status_at q a ≡ s
  decide_here = d a o.is_atom ∙ cond-true (eqb a a) s (status_at p a) (eq-eqb a a refl)

  decide_other : (c : ℕ) → c < atom_limit → (c ≡ a → ⊥) → status_at q c ≡ status_at p c
  decide_other c lt ne = d c lt ∙ cond-false (eqb c a) s (status_at p c) (ne_eqb c a ne)

  pub decide_on : (K : Interp) → Within p K → Admits s (K a) → Within q K
  decide_on K w h =
      record {
        small = w.small;
        agrees = λ c lt.
            ⊎_elim
            (λ (e : c ≡ a). subst (λ (x : ℕ). Admits (status_at q x) (K x)) (sym e) (subst (λ (x : Status). Admits x (K a)) (sym decide_here) h))
            (λ (ne : c ≡ a → ⊥). subst (λ (x : Status). Admits x (K c)) (sym (decide_other c lt ne)) (w.agrees c lt))
            (cases_eq c a);
      }

  pub decide_back : (K : Interp) → Within q K → Within p K
  decide_back K w =
      record {
        small = w.small;
        agrees = λ c lt.
            ⊎_elim
            (λ (e : c ≡ a). subst (λ (x : ℕ). Admits (status_at p x) (K x)) (sym e) (subst (λ (x : Status). Admits x (K a)) (sym o.undecided) tt))
            (λ (ne : c ≡ a → ⊥). subst (λ (x : Status). Admits x (K c)) (decide_other c lt ne) (w.agrees c lt))
            (cases_eq c a);
      }

  pub decide_value : (K : Interp) → Within q K → Admits s (K a)
  decide_value K w = subst (λ (x : Status). Admits x (K a)) decide_here (w.agrees a o.is_atom)

-- and fewer atoms are open then
open_same : (p q : PartialPlan) (n : ℕ) → ((c : ℕ) → c < n → status_at q c ≡ status_at p c) → open_below n q ≡ open_below n p
unfolding open_below
open_same p q zero h = refl
open_same p q (suc n) h = omega (arith, open_same p q n (λ c lt. h c (omega arith)), ap open_one (h n (omega arith)))

open_less : (p q : PartialPlan) (a n : ℕ) → a < n → open_one (status_at p a) ≡ 1 → open_one (status_at q a) ≡ 0 → ((c : ℕ) → c < n → (c ≡ a → ⊥) → status_at q c ≡ status_at p c) → open_below n q < open_below n p
unfolding open_below
open_less p q a zero lt x y h = absurd (omega arith)
open_less p q a (suc n) lt x y h =
    ⊎_elim
    (λ (e : n ≡ a).
    let s = open_same p q n (λ c l. h c (omega arith) (omega arith)) in
    let x' = subst (λ (k : ℕ). open_one (status_at p k) ≡ 1) (sym e) x in
    let y' = subst (λ (k : ℕ). open_one (status_at q k) ≡ 0) (sym e) y in
    omega arith)
    (λ (ne : n ≡ a → ⊥).
    let s = open_less p q a n (omega arith) x y (λ c l. h c (omega arith)) in
    let t = ap open_one (h n (omega arith) ne) in
    omega arith)
    (cases_eq n a)

pub fewer : (p q : PartialPlan) (a : ℕ) (s : Status) → Opened p a → Decides p a s q → open_one s ≡ 0 → open_below atom_limit q < open_below atom_limit p
fewer p q a s o d z = open_less p q a atom_limit o.is_atom (ap open_one o.undecided) (ap open_one (decide_here p q a s o d) ∙ z) (decide_other p q a s o d)

-- a count of those that are in
pub size_none : (I : Interp) → size_below 0 I ≡ 0
unfolding size_below
size_none I = refl

pub size_more : (n : ℕ) (I : Interp) (b : Bool) → I n ≡ b → size_below (n + 1) I ≡ cond b 1 0 + size_below n I
unfolding size_below
size_more n I b e = let s : n + 1 ≡ suc n = omega arith in ap (λ (k : ℕ). size_below k I) s ∙ ap (λ (t : Bool). cond t 1 0 + size_below n I) e

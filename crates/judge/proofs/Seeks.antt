-- How a search comes together. Assumes nothing.
use Rattle.std.proofs.Common.{◌≡◌, ℕ, ◌<◌, ◌≤◌, true, false, Some, None, Option, sym, ◌∙◌, subst, ⊎_elim, arith}
use Rattle.std.proofs.lemmas.Bool.{both_ways, cases_Bool, cases_lt, cases_eq, false_from_ne_true}
use Rattle.semantics.specs.Program.{Interp, atom_limit}
use Rattle.plans.specs.Partial.{Admits, status_at, full, Within, Opened, Decides, open_one, open_below}
use Rattle.plans.specs.declared.partial_plan.PartialPlan.{PartialPlan}
use Rattle.plans.specs.declared.partial_plan.Status.{Status}
use Rattle.plans.specs.declared.partial_plan.Status.TheVariants.{In, Out, Open}
use Rattle.plans.proofs.Partial.{settled, fewer, decide_on, decide_back, decide_value}
use Rattle.judge.specs.Search.{Sooner, Found}

pub refine : (F : Interp → Type 0) (p q : PartialPlan) → ((K : Interp) → Within q K → Within p K) → ((K : Interp) → Within p K → F K → Within q K) → (r : Option PartialPlan) → Found F q r → Found F p r
refine F p q back on None h = λ K w f. h K (on K w f) f
refine F p q back on (Some x) h = (back (full x) h.0, h.1, λ K w f s. h.2 K (on K w f) f s)

-- an atom that must be kept, or removed
pub forced : (F : Interp → Type 0) (p q : PartialPlan) (a : ℕ) (s : Status) → Opened p a → Decides p a s q → ((K : Interp) → Within p K → F K → Admits s (K a)) → (r : Option PartialPlan) → Found F q r → Found F p r
forced F p q a s o d must r h = refine F p q (decide_back p q a s o d) (λ K w f. decide_on p q a s o d K w (must K w f)) r h

-- fewer atoms are open then
pub fewer_than : (p q : PartialPlan) (a : ℕ) (s : Status) (n : ℕ) → Opened p a → Decides p a s q → open_one s ≡ 0 → open_below atom_limit p ≡ n → open_below atom_limit q < n
fewer_than p q a s n o d z e = subst (λ (k : ℕ). open_below atom_limit q < k) e (fewer p q a s o d z)

-- the lowest open atom is tried kept first
module _ (F : Interp → Type 0) (p q : PartialPlan) (a : ℕ) (o : Opened p a) (low : (c : ℕ) → c < a → status_at p c ≡ Open → ⊥) (d : Decides p a In q) where
  pub keep_first : (r : PartialPlan) → Found F q (Some r) → Found F p (Some r)
  keep_first r h = (decide_back p q a In o d (full r) h.0, h.1, first)
    where
      R : Interp
      R = full r

      has : full r a ≡ true
      has = decide_value p q a In o d (full r) h.0

      wr : Within p (full r)
      wr = decide_back p q a In o d (full r) h.0

      same_low : (K : Interp) → Within p K → (c : ℕ) → c < a → K c ≡ full r c
      same_low K w c lt =
          let la = o.is_atom in
          let lc : c < atom_limit = omega arith in
          settled (status_at p c) (K c) (low c lt) (w.agrees c lc) ∙ sym (settled (status_at p c) (full r c) (low c lt) (wr.agrees c lc))

      first : (K : Interp) → Within p K → F K → Sooner K (full r) → ⊥
      first K w f s =
          ⊎_elim
          (λ (t : K a ≡ true). h.2 K (decide_on p q a In o d K w t) f s)
          (λ (e : K a ≡ false).
          ⊎_elim
          (λ (lt : s.place < a). both_ways (K s.place) (same_low K w s.place lt ∙ s.lacks) s.has)
          (λ (ge : a ≤ s.place).
          ⊎_elim
          (λ (eq : a ≡ s.place). both_ways (K a) e (subst (λ (x : ℕ). K x ≡ true) (sym eq) s.has))
          (λ (ne : a ≡ s.place → ⊥). let lt : a < s.place = omega arith in both_ways (K a) e (s.same a lt ∙ has))
          (cases_eq a s.place))
          (cases_lt s.place a))
          (cases_Bool (K a))

  pub keep_none : (z : PartialPlan) → Decides p a Out z → Found F q None → (r : Option PartialPlan) → Found F z r → Found F p r
  keep_none z dz h r k =
      forced F p z a Out o dz (λ K w f. false_from_ne_true (K a) (λ t. h K (decide_on p q a In o d K w t) f)) r k

-- In a model, a set X of atoms that are in is unfounded exactly when the interpretation without X is a proper subset that satisfies the reduct.
-- A search may then look for the atoms that stay in place of those that go. Assumes nothing.
use mathlib.Core.Path.{◌≡◌, refl, ap}
use mathlib.Core.Bool.{Bool, true, false, not, ◌&&◌, ◌||◌, true≢false, false≢true}
use mathlib.Core.List.{List, [], ◌∷◌}
use mathlib.Core.Logic.{◌↔◌, ◌⊎◌, inl, inr}
use Prim.Native.Nat.{ℕ}
use Rattle.std.proofs.lemmas.Bool.{cases_Bool, and_parts, and_right, or_left, or_right, or_cases}
use Rattle.semantics.specs.Program.{Interp, Rule, Meaning, any, keep, body_true, satisfied, Model, Subset, ◌∖◌, Excused, false_here, false_without, other_head, Unfounded}
use Rattle.semantics.proofs.Facts.{clash, each_map, each_map₂, kept_from, kept_to}

-- the rules whose whole body the interpretation makes true
abbrev pub reduct : Meaning → Interp → List Rule → List Rule
reduct m I rules = keep (body_true m I) rules

pub record Proper (J I : Interp) : Type 0 where
  pub within : Subset J I
  pub lacks : (a : ℕ) × (I a ≡ true) × (J a ≡ false)

head_split : (I X : Interp) (hs : List ℕ) → any I hs ≡ true → (any X hs ≡ true) ⊎ (any (I ∖ X) hs ≡ true)
head_split I X [] e = absurd (false≢true e)
head_split I X (a ∷ hs) e = go (I a) (X a) (head_split I X hs) e
  where
    go : (i x : Bool) → (any I hs ≡ true → (any X hs ≡ true) ⊎ (any (I ∖ X) hs ≡ true)) → (i || any I hs) ≡ true → ((x || any X hs) ≡ true) ⊎ (((i && not x) || any (I ∖ X) hs) ≡ true)
    go i true f e = inl refl
    go true false f e = inr refl
    go false false f e = f e

module _ (m : Meaning) (I X : Interp) (r : Rule) where
  -- a rule that is satisfied and excused is satisfied without X, where the body is true
  pub support_to : satisfied m I r ≡ true → (any X r.head ≡ true → Excused m I X r) → body_true m I r ≡ true → satisfied m (I ∖ X) r ≡ true
  support_to sat ok b =
      go (body_true m (I ∖ X) r) refl
    where
      meets : body_true m (I ∖ X) r ≡ true → any X r.head ≡ true → any (I ∖ X) r.head ≡ true
      meets t x = elim (ok x) [ false_here e ↦ clash b e | false_without e ↦ clash t e | other_head e ↦ e ]

      some_head : any I r.head ≡ true
      some_head = elim (or_cases (not (body_true m I r)) (any I r.head) sat) [ inl e ↦ clash e (ap not b) | inr e ↦ e ]

      go : (t : Bool) → body_true m (I ∖ X) r ≡ t → (not (body_true m (I ∖ X) r) || any (I ∖ X) r.head) ≡ true
      go false e = or_left _ _ (ap not e)
      go true e = or_right (not (body_true m (I ∖ X) r)) _ (elim (head_split I X r.head some_head) [ inl x ↦ meets e x | inr h ↦ h ])

  pub support_from : (body_true m I r ≡ true → satisfied m (I ∖ X) r ≡ true) → any X r.head ≡ true → Excused m I X r
  support_from f x =
      elim (cases_Bool (body_true m I r)) [
        | inr e ↦ false_here e
        | inl e ↦
            elim (cases_Bool (body_true m (I ∖ X) r)) [
              | inr e' ↦ false_without e'
              | inl e' ↦ elim (or_cases (not (body_true m (I ∖ X) r)) (any (I ∖ X) r.head) (f e)) [ inl n ↦ clash n (ap not e') | inr h ↦ other_head h ]
            ]
      ]

taken : (i x : Bool) → i ≡ true → (i && not x) ≡ false → x ≡ true
taken i true p q = refl
taken true false p q = absurd (true≢false q)
taken false false p q = p

pub without_proper : (I X : Interp) → Subset X I → (a : ℕ) × (X a ≡ true) → Proper (I ∖ X) I
without_proper I X sub s =
    record {
      within = λ a e. (and_parts (I a) (not (X a)) e).0;
      lacks = (s.0, sub s.0 s.1, and_right (I s.0) (not (X s.0)) (ap not s.1));
    }

pub unfounded_reduct :
    (rules : List Rule) (m : Meaning) (I X : Interp) →
    Model m I rules →
    Unfounded rules m I X ↔ (Subset X I × Proper (I ∖ X) I × Model m (I ∖ X) (reduct m I rules))
unfounded_reduct rules m I X fits = (
  λ u. (
    u.inside,
    without_proper I X u.inside u.member,
    kept_to _ (body_true m I) rules (each_map₂ rules (λ r. support_to m I X r) fits u.excused),
  ),
  λ t.
      record {
        member = (t.1.lacks.0, taken (I t.1.lacks.0) (X t.1.lacks.0) t.1.lacks.1 t.1.lacks.2);
        inside = t.0;
        excused = each_map rules (λ r. support_from m I X r) (kept_from _ (body_true m I) rules t.2);
      },
)

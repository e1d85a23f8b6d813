-- The rule of a body's bytes, said of its places.
use Rattle.std.proofs.Common.{◌≡◌, ◌≢◌, ℕ, zero, suc, ◌<◌, Bool, true, false, cond, not, ◌&&◌, eqb, ltb, ◌⊎◌, List, [], ◌∷◌, length, get_or, is_some, Some, None, Option, sym, refl, ◌∙◌, subst, inl, inr, arith}
use Rattle.std.proofs.lemmas.Bool.{false≢true, ltb-true, lt-ltb, eq-eqb, both_ways, and_from, not-true}
use Rattle.std.proofs.lemmas.Option.{none-some}
use Rattle.std.specs.List.{flat_map}
use Rattle.records.specs.declared.literal.Literal.{Literal}
use Rattle.records.specs.declared.literal.Literal.TheVariants.{Atom, NotAtom, Source, NotSource}
use Rattle.records.specs.Faults.{all_are}
use Rattle.records.specs.Literals.{pair_of, body_rule, Within, LiteralsFirst}

-- zeros are unused places
unused : (ps : List (Option Literal)) → all_are 0 (flat_map pair_of ps) ≡ true → (k : ℕ) → get_or ps k None ≡ None
unused [] h k = refl
unused (None ∷ ps) h zero = refl
unused (None ∷ ps) h (suc k) = unused ps h k
unused (Some (Atom n) ∷ ps) h k = absurd (false≢true h)
unused (Some (NotAtom n) ∷ ps) h k = absurd (false≢true h)
unused (Some (Source n) ∷ ps) h k = absurd (false≢true h)
unused (Some (NotSource n) ∷ ps) h k = absurd (false≢true h)

zeros : (ps : List (Option Literal)) → ((k : ℕ) (l : Literal) → get_or ps k None ≡ Some l → ⊥) → all_are 0 (flat_map pair_of ps) ≡ true
zeros [] f = refl
zeros (None ∷ ps) f = zeros ps (λ k. f (suc k))
zeros (Some l ∷ ps) f = absurd (f 0 l refl)

-- a literal is read only within its bound t
bounded : (t u : Bool) (l : Literal) → cond (is_some (cond t (Some l) None)) u false ≡ true → (t ≡ true) × (u ≡ true)
bounded true u l h = (refl, h)
bounded false u l h = absurd (false≢true h)

kept : (t u : Bool) (l : Literal) → t ≡ true → u ≡ true → cond (is_some (cond t (Some l) None)) u false ≡ true
kept true u l e h = h
kept false u l e h = absurd (false≢true e)

-- the first literal, and the others
first : (l : Literal) (ps : List (Option Literal)) → body_rule (flat_map pair_of (Some l ∷ ps)) ≡ true → Within l × (body_rule (flat_map pair_of ps) ≡ true)
first (Atom n) ps h = let p = bounded (ltb n 255) _ (Atom n) h in (ltb-true n 255 p.0, p.1)
first (NotAtom n) ps h = let p = bounded (ltb n 255) _ (NotAtom n) h in (ltb-true n 255 p.0, p.1)
first (Source n) ps h = let p = bounded (ltb n 64) _ (Source n) h in (ltb-true n 64 p.0, p.1)
first (NotSource n) ps h = let p = bounded (ltb n 64) _ (NotSource n) h in (ltb-true n 64 p.0, p.1)

first_back : (l : Literal) (ps : List (Option Literal)) → Within l → body_rule (flat_map pair_of ps) ≡ true → body_rule (flat_map pair_of (Some l ∷ ps)) ≡ true
first_back (Atom n) ps w h = kept (ltb n 255) _ (Atom n) (lt-ltb n 255 w) h
first_back (NotAtom n) ps w h = kept (ltb n 255) _ (NotAtom n) (lt-ltb n 255 w) h
first_back (Source n) ps w h = kept (ltb n 64) _ (Source n) (lt-ltb n 64 w) h
first_back (NotSource n) ps w h = kept (ltb n 64) _ (NotSource n) (lt-ltb n 64 w) h

within : (ps : List (Option Literal)) → body_rule (flat_map pair_of ps) ≡ true → (k : ℕ) (l : Literal) → get_or ps k None ≡ Some l → Within l
within [] h k l e = absurd (none-some l e)
within (None ∷ ps) h k l e = absurd (none-some l (sym (unused (None ∷ ps) h k) ∙ e))
within (Some m ∷ ps) h zero l e = let is : m ≡ l = cc in subst Within is (first m ps h).0
within (Some m ∷ ps) h (suc k) l e = within ps (first m ps h).1 k l e

before : (ps : List (Option Literal)) → body_rule (flat_map pair_of ps) ≡ true → (i j : ℕ) (l : Literal) → i < j → get_or ps j None ≡ Some l → is_some (get_or ps i None) ≡ true
before [] h i j l lt e = absurd (none-some l e)
before (None ∷ ps) h i j l lt e = absurd (none-some l (sym (unused (None ∷ ps) h j) ∙ e))
before (Some m ∷ ps) h zero j l lt e = refl
before (Some m ∷ ps) h (suc i) zero l lt e = absurd (omega arith)
before (Some m ∷ ps) h (suc i) (suc j) l lt e = before ps (first m ps h).1 i j l (omega arith) e

pub literals_first : (ps : List (Option Literal)) → body_rule (flat_map pair_of ps) ≡ true → LiteralsFirst ps
literals_first ps h = record { within = within ps h; before = before ps h }

pub literals_back : (ps : List (Option Literal)) → LiteralsFirst ps → body_rule (flat_map pair_of ps) ≡ true
literals_back [] f = refl
literals_back (None ∷ ps) f = zeros ps (λ k l e. false≢true (f.before 0 (suc k) l (omega arith) e))
literals_back (Some l ∷ ps) f = first_back l ps (f.within 0 l refl) (literals_back ps (record {
  within = λ k. f.within (suc k);
  before = λ i j m lt. f.before (suc i) (suc j) m (omega arith);
}))

-- an atom or a literal in the first place
pub some_first : (x : ℕ) (ps : List (Option Literal)) → 0 < length ps → not (eqb x 255 && eqb (get_or (flat_map pair_of ps) 0 0) 0) ≡ true → (x ≢ 255) ⊎ (is_some (get_or ps 0 None) ≡ true)
some_first x [] l h = absurd (omega arith)
some_first x (Some m ∷ ps) l h = inr refl
some_first x (None ∷ ps) l h = inl (λ e. both_ways _ (not-true _ h) (and_from _ _ (eq-eqb x 255 e) refl))

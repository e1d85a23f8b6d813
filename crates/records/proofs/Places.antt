-- The rule of a body's bytes, read as a rule of its places.
use Rattle.std.proofs.Common.{◌≡◌, Bool, true, false, cond, ◌&&◌, ltb, List, [], ◌∷◌, is_some, Some, None, Option, refl}
use Rattle.std.proofs.lemmas.Bool.{false≢true}
use Rattle.std.specs.List.{flat_map}
use Rattle.records.specs.declared.literal.Literal.{Literal}
use Rattle.records.specs.declared.literal.Literal.TheVariants.{Atom, NotAtom, Source, NotSource}
use Rattle.records.specs.Faults.{all_are}
use Rattle.records.specs.Literals.{pair_of, body_rule, all_unused, places_ok}

zeros_unused : (ps : List (Option Literal)) → all_are 0 (flat_map pair_of ps) ≡ true → all_unused ps ≡ true
zeros_unused [] h = refl
zeros_unused (None ∷ ps) h = zeros_unused ps h
zeros_unused (Some (Atom n) ∷ ps) h = absurd (false≢true h)
zeros_unused (Some (NotAtom n) ∷ ps) h = absurd (false≢true h)
zeros_unused (Some (Source n) ∷ ps) h = absurd (false≢true h)
zeros_unused (Some (NotSource n) ∷ ps) h = absurd (false≢true h)

-- a literal is read only within its bound t
bounded : (t u v : Bool) (l : Literal) → (u ≡ true → v ≡ true) → cond (is_some (cond t (Some l) None)) u false ≡ true → (t && v) ≡ true
bounded true u v l f h = f h
bounded false u v l f h = absurd (false≢true h)

pub places_from : (ps : List (Option Literal)) → body_rule (flat_map pair_of ps) ≡ true → places_ok ps ≡ true
places_from [] h = refl
places_from (None ∷ ps) h = zeros_unused ps h
places_from (Some (Atom n) ∷ ps) h = bounded (ltb n 255) _ _ (Atom n) (places_from ps) h
places_from (Some (NotAtom n) ∷ ps) h = bounded (ltb n 255) _ _ (NotAtom n) (places_from ps) h
places_from (Some (Source n) ∷ ps) h = bounded (ltb n 64) _ _ (Source n) (places_from ps) h
places_from (Some (NotSource n) ∷ ps) h = bounded (ltb n 64) _ _ (NotSource n) (places_from ps) h

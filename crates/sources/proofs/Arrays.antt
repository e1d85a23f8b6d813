-- Arrays whose elements are what a call gives of each index, and lists joined of fours.
use Rattle.std.specs.Prelude.{◌≡◌, ℕ, zero, suc, ◌*◌, ◌<◌, List, [], ◌∷◌, ◌++◌, map, length, take, drop, slice_index_or, refl}
use Rattle.std.specs.Array.{IsFromFnResult}
use Rattle.plans.proofs.FromFn.{from_fn_at}
use Rattle.std.specs.Fn.{Mut, Called}
use Rattle.std.specs.List.{flat_map}
use Rattle.std.specs.Simd.{first_chunks}
use Rattle.std.proofs.Common.{sym, ◌∙◌, ap, arith, take-append-drop, length-drop}
use Rattle.std.proofs.lemmas.List.{same_lists, length-map, get_or-map, get_or_default}

module _ {F B C : Type 0} (k : B → C) where
  module _ (g : Mut F (ℕ × Unit {0}) B) (f : F) (xs : List C) (ys : List B) (n : ℕ) (made : IsFromFnResult g f ys n) (long : length xs ≡ n)
      (o : C) (call : (q : F) (i : ℕ) (y : B) → i < n → Called g f (i, tt) y q → (k y ≡ slice_index_or xs i o) × (q ≡ f)) where
    -- where each call gives what xs has at its index
    pub filled : map k ys ≡ xs
    filled = same_lists _ _ (length-map ys k ∙ made.long ∙ sym long) (λ j d lt.
        let l = length-map ys k in
        let at = from_fn_at {g = g} (λ i y. k y ≡ slice_index_or xs i o) f ys 0 n (λ i y q below called. let is = call q i y (omega arith) called in (is.1, is.0)) made.each j (omega arith) (omega (arith, made.long)) in
        get_or-map k ys j at.0 d (omega arith) ∙ ap k at.1.0 ∙ at.2 ∙ get_or_default xs j o d (omega (arith, long, made.long)))

-- the chunks of four, one after another
pub fours_joined : {X : Type 0} (k : ℕ) (xs : List X) → length xs ≡ 4 * k → flat_map (λ x. x) (first_chunks 4 k xs) ≡ xs
fours_joined zero [] l = refl
fours_joined zero (x ∷ xs) l = absurd (omega arith)
fours_joined (suc k) xs l = ap (λ t. take 4 xs ++ t) (fours_joined k (drop 4 xs) (simp length-drop (omega arith))) ∙ take-append-drop 4 xs

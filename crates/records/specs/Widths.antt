-- Lists that are written one item after another, each at the same width: records in a run, literals, numbers.
use Rattle.std.specs.Prelude.{◌≡◌, ℕ, suc, ◌+◌, ◌*◌, ◌<◌, List, [], ◌∷◌, ◌++◌, length, take, drop, refl}
use Rattle.std.proofs.Common.{sym, ◌∙◌, ap, mul-add, add-one, arith, take-add}
use Rattle.std.proofs.lemmas.List.{flat_map_more, take_at, drop_at, length-append}
use Rattle.std.specs.List.{flat_map}

one_more : (w k : ℕ) → w * suc k ≡ w + w * k
one_more w k = ap (λ z. w * z) (sym (add-one k)) ∙ omega (arith, mul-add w k 1)

module _ {A : Type 0} (f : A → List ℕ) (w : ℕ) (size : (v : A) → length (f v) ≡ w) where
  pub joined_long : (xs : List A) → length (flat_map f xs) ≡ w * length xs
  joined_long [] = omega arith
  joined_long (x ∷ xs) = length-append (f x) (flat_map f xs) ∙ omega (arith, size x, joined_long xs, one_more w (length xs))

  -- the first items, and the others
  pub joined_parts : (x y : A) (xs ys : List A) → flat_map f (x ∷ xs) ≡ flat_map f (y ∷ ys) → (f x ≡ f y) × (flat_map f xs ≡ flat_map f ys)
  joined_parts x y xs ys e = (
    sym (take_at (f x) (flat_map f xs) w (size x)) ∙ ap (take w) e ∙ take_at (f y) (flat_map f ys) w (size y),
    sym (drop_at (f x) (flat_map f xs) w (size x)) ∙ ap (drop w) e ∙ drop_at (f y) (flat_map f ys) w (size y),
  )

  pub joined_single : 0 < w → ((v u : A) → f v ≡ f u → v ≡ u) → (xs ys : List A) → flat_map f xs ≡ flat_map f ys → xs ≡ ys
  joined_single pos single [] [] e = refl
  joined_single pos single [] (y ∷ ys) e = absurd (omega (arith, ap length e, length-append (f y) (flat_map f ys), size y))
  joined_single pos single (x ∷ xs) [] e = absurd (omega (arith, ap length e, length-append (f x) (flat_map f xs), size x))
  joined_single pos single (x ∷ xs) (y ∷ ys) e =
      let p = joined_parts x y xs ys e in
      let a : x ≡ y = single x y p.0 in
      let b : xs ≡ ys = joined_single pos single xs ys p.1 in
      cc

  -- one item more is read
  pub read_more : (xs : List A) (v : A) (bs : List ℕ) (k : ℕ) → flat_map f xs ≡ take (w * k) bs → f v ≡ take w (drop (w * k) bs) → flat_map f (xs ++ v ∷ []) ≡ take (w * (k + 1)) bs
  read_more xs v bs k so is =
      let step : take (w * (k + 1)) bs ≡ take (w * k) bs ++ take w (drop (w * k) bs) = ap (λ z. take z bs) (omega (arith, mul-add w k 1)) ∙ take-add (w * k) w bs in
      sym (flat_map_more f [] xs v) ∙ ap (λ t. t ++ f v) so ∙ ap (λ t. take (w * k) bs ++ t) is ∙ sym step

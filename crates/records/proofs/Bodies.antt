-- The bytes of a rule's body, place by place.
use Rattle.std.proofs.Common.{◌≡◌, ℕ, zero, suc, ◌+◌, ◌*◌, ◌<◌, Bool, true, false, cond, ◌&&◌, eqb, List, [], ◌∷◌, length, get_or, drop, map, is_some, None, Option, refl, ap, ap₂, ◌∙◌, arith}
use Rattle.std.specs.List.{list_all, prefix_len}
use Rattle.std.specs.Simd.{first_chunks}
use Rattle.records.specs.declared.literal.Literal.{Literal}
use Rattle.records.specs.Literals.{literal_of, body_of, body_rule}
use Rattle.records.specs.Faults.{all_are}

-- a list that is f of another at each place
pub mapped : {A B : Type 0} (f : A → B) (xs : List A) (ys : List B) (d : A) (e : B) → length ys ≡ length xs → ((i : ℕ) → i < length xs → get_or ys i e ≡ f (get_or xs i d)) → ys ≡ map f xs
mapped f [] [] d e l h = refl
mapped f [] (y ∷ ys) d e l h = absurd (omega arith)
mapped f (x ∷ xs) [] d e l h = absurd (omega arith)
mapped f (x ∷ xs) (y ∷ ys) d e l h =
    ap₂ ◌∷◌ (h 0 (omega arith)) (mapped f xs ys d e (omega arith) (λ i lt. h (suc i) (omega arith)))

-- the places are read two bytes after two
pub places_read : (n : ℕ) (bs : List ℕ) (ps : List (Option Literal)) → length bs ≡ 2 * n → length ps ≡ n
    → ((i : ℕ) → i < n → get_or ps i None ≡ literal_of (get_or bs (2 * i) 0) (get_or bs (2 * i + 1) 0)) → ps ≡ body_of bs
places_read n [] [] l m h = refl
places_read n [] (p ∷ ps) l m h = absurd (omega arith)
places_read n (c ∷ []) ps l m h = absurd (omega arith)
places_read n (c ∷ d ∷ bs) [] l m h = absurd (omega arith)
places_read zero (c ∷ d ∷ bs) (p ∷ ps) l m h = absurd (omega arith)
places_read (suc n) (c ∷ d ∷ bs) (p ∷ ps) l m h =
    let here : p ≡ literal_of c d = h 0 (omega arith) in
    let rest : ps ≡ body_of bs = places_read n bs ps (omega arith) (omega arith) (λ i lt.
    let e : 2 * suc i ≡ suc (suc (2 * i)) = omega arith in
    let f : 2 * suc i + 1 ≡ suc (suc (2 * i + 1)) = omega arith in
    h (suc i) (omega arith) ∙ ap₂ (λ j k. literal_of (get_or (c ∷ d ∷ bs) j 0) (get_or (c ∷ d ∷ bs) k 0)) e f) in
    ap₂ ◌∷◌ here rest

-- whether two bytes are a literal
abbrev pub written : List ℕ → Bool
written pair = is_some (literal_of (get_or pair 0 0) (get_or pair 1 0))

zero_pair : (t u r : Bool) → (cond t (cond u true false) false && r) ≡ cond t (cond u r false) false
zero_pair true true r = refl
zero_pair true false r = refl
zero_pair false u r = refl

zero_pairs : (n : ℕ) (bs : List ℕ) → length bs ≡ 2 * n → list_all (all_are 0) (first_chunks 2 n bs) ≡ all_are 0 bs
zero_pairs zero [] l = refl
zero_pairs zero (c ∷ bs) l = absurd (omega arith)
zero_pairs (suc n) [] l = absurd (omega arith)
zero_pairs (suc n) (c ∷ []) l = absurd (omega arith)
zero_pairs (suc n) (c ∷ d ∷ bs) l = zero_pair (eqb c 0) (eqb d 0) _ ∙ ap (λ r. cond (eqb c 0) (cond (eqb d 0) r false) false) (zero_pairs n bs (omega arith))

-- literals, and then zeros
pub pairs_keep : (n : ℕ) (bs : List ℕ) → length bs ≡ 2 * n → list_all (all_are 0) (drop (prefix_len written (first_chunks 2 n bs)) (first_chunks 2 n bs)) ≡ body_rule bs
pairs_keep zero [] l = refl
pairs_keep zero (c ∷ bs) l = absurd (omega arith)
pairs_keep (suc n) [] l = absurd (omega arith)
pairs_keep (suc n) (c ∷ []) l = absurd (omega arith)
pairs_keep (suc n) (c ∷ d ∷ bs) l =
    let rest = first_chunks 2 n bs in
    let pairs = (c ∷ d ∷ []) ∷ rest in
    let one : 1 + prefix_len written rest ≡ suc (prefix_len written rest) = omega arith in
    elim (is_some (literal_of c d)) as (λ t. list_all (all_are 0) (drop (cond t (1 + prefix_len written rest) 0) pairs) ≡ cond t (body_rule bs) (all_are 0 (c ∷ d ∷ bs))) [
      | true ↦ ap (λ k. list_all (all_are 0) (drop k pairs)) one ∙ pairs_keep n bs (omega arith)
      | false ↦ zero_pairs (suc n) (c ∷ d ∷ bs) l
    ]

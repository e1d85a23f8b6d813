-- Atom lists that ascend, said of their places.
use Rattle.std.proofs.Common.{◌≡◌, ℕ, zero, suc, ◌+◌, ◌-◌, ◌<◌, ◌≤◌, min, Bool, true, false, cond, ◌||◌, leb, ltb, eqb, List, [], ◌∷◌, length, get_or, sym, refl, ap, ◌∙◌, ⊎_elim, subst, arith, eqb-true}
use Rattle.std.proofs.lemmas.Bool.{leb-true, le-leb, lt-ltb, le-ltb, and_parts, and_from, cases_lt, ltb-true, ltb-false, eqb-false, false≢true}
use Rattle.std.specs.List.{IsAllAdjacentAnswer}
use Rattle.records.specs.Atoms.{ascends, used, Ascending, UsedAt}

-- the first place of a list, and the others
pub record First (low x : ℕ) (xs : List ℕ) : Type 0 where
  pub high : low ≤ x
  pub rest : ascends (min 255 (x + 1)) xs ≡ true

pub first : (low x : ℕ) (xs : List ℕ) → ascends low (x ∷ xs) ≡ true → First low x xs
first low x xs h =
    let p = and_parts (leb low x) _ h in
    record { high = leb-true low x p.0; rest = p.1 }

within : (low : ℕ) (xs : List ℕ) → ascends low xs ≡ true → low ≤ 255 → (k : ℕ) → k < length xs → low ≤ get_or xs k 0
within low [] h few k lt = absurd (omega arith)
within low (x ∷ xs) h few zero lt = (first low x xs h).high
within low (x ∷ xs) h few (suc k) lt =
    let f = first low x xs h in
    let high = f.high in
    let r = within (min 255 (x + 1)) xs f.rest (omega arith) k (omega arith) in
    omega arith

above : (low : ℕ) (xs : List ℕ) → ascends low xs ≡ true → (i j : ℕ) → i < j → j < length xs → get_or xs j 0 < 255 → get_or xs i 0 < get_or xs j 0
above low [] h i j lt in_list atom = absurd (omega arith)
above low (x ∷ xs) h i zero lt in_list atom = absurd (omega arith)
above low (x ∷ xs) h zero (suc j) lt in_list atom =
    let f = first low x xs h in
    let r = within (min 255 (x + 1)) xs f.rest (omega arith) j (omega arith) in
    omega arith
above low (x ∷ xs) h (suc i) (suc j) lt in_list atom = above (min 255 (x + 1)) xs (first low x xs h).rest i j (omega arith) (omega arith) atom

pub ascending : (xs : List ℕ) → ascends 0 xs ≡ true → Ascending xs
ascending xs h = above 0 xs h

others : (x : ℕ) (xs : List ℕ) → Ascending (x ∷ xs) → Ascending xs
others x xs a i j lt l h = a (suc i) (suc j) (omega arith) (omega arith) h

others_above : (x : ℕ) (xs : List ℕ) → Ascending (x ∷ xs) → (k : ℕ) → k < length xs → min 255 (x + 1) ≤ get_or xs k 0
others_above x xs a k lt = ⊎_elim
    (λ (l : get_or xs k 0 < 255). let up : x < get_or xs k 0 = a 0 (suc k) (omega arith) (omega arith) l in omega arith)
    (λ (g : 255 ≤ get_or xs k 0). omega arith)
    (cases_lt (get_or xs k 0) 255)

ascends_from : (low : ℕ) (xs : List ℕ) → Ascending xs → ((k : ℕ) → k < length xs → low ≤ get_or xs k 0) → ascends low xs ≡ true
ascends_from low [] a h = refl
ascends_from low (x ∷ xs) a h = and_from _ _ (le-leb low x (h 0 (omega arith))) (ascends_from (min 255 (x + 1)) xs (others x xs a) (others_above x xs a))

pub ascends_back : (xs : List ℕ) → Ascending xs → ascends 0 xs ≡ true
ascends_back xs a = ascends_from 0 xs a (λ k lt. omega arith)

-- what each place and the next are to be
abbrev pub next_above : ℕ → ℕ → Bool
next_above x y = ltb x y || eqb y 255

climbs : (x y : ℕ) → true ≡ next_above x y → y < 255 → x < y
climbs x y h l = elim (ltb x y) as (λ t. ltb x y ≡ t → true ≡ (t || eqb y 255) → x < y) [
  | true ↦ λ e k. ltb-true x y e
  | false ↦ λ e k. let top : y ≡ 255 = eqb-true y 255 (sym k) in absurd (omega arith)
] refl h

module _ (xs : List ℕ) (adjacent : (k : ℕ) → k + 1 < length xs → true ≡ next_above (get_or xs k 0) (get_or xs (k + 1) 0)) where
  spread : (d i : ℕ) → i + d + 1 < length xs → get_or xs (i + d + 1) 0 < 255 → get_or xs i 0 < get_or xs (i + d + 1) 0
  spread zero i lt atom =
      let here : i + 0 ≡ i = omega arith in
      let P : ℕ → Type 0 = λ k. get_or xs k 0 < get_or xs (i + 0 + 1) 0 in
      subst P here (climbs _ _ (adjacent (i + 0) lt) atom)
  spread (suc d) i lt atom =
      let e : i + suc d ≡ i + d + 1 = omega arith in
      let last = climbs _ _ (adjacent (i + suc d) lt) atom in
      let P : ℕ → Type 0 = λ k. get_or xs k 0 < get_or xs (i + suc d + 1) 0 in
      let near : get_or xs (i + d + 1) 0 < get_or xs (i + suc d + 1) 0 = subst P e last in
      let rest = spread d i (omega arith) (omega arith) in
      omega arith

  all_ascend : Ascending xs
  all_ascend i j lt in_list atom =
      let e : i + (j - i - 1) + 1 ≡ j = omega arith in
      let P : ℕ → Type 0 = λ k. k < length xs → get_or xs k 0 < 255 → get_or xs i 0 < get_or xs k 0 in
      subst P e (spread (j - i - 1) i) in_list atom

-- a place that does not climb
stays : (x y : ℕ) → y < 256 → false ≡ next_above x y → (y < 255) × (y ≤ x)
stays x y few h = elim (ltb x y) as (λ t. ltb x y ≡ t → false ≡ (t || eqb y 255) → (y < 255) × (y ≤ x)) [
  | true ↦ λ e k. absurd (false≢true k)
  | false ↦ λ e k. let ne = eqb-false y 255 (sym k) in (omega arith, ltb-false x y e)
] refl h

pub ascends_answer : (xs : List ℕ) → ((k : ℕ) → get_or xs k 0 < 256) → (r : Bool) → IsAllAdjacentAnswer (λ x y b. b ≡ next_above x y) xs r → r ≡ ascends 0 xs
ascends_answer xs few true h = sym (ascends_back xs (all_ascend xs (λ k lt. h k 0 lt)))
ascends_answer xs few false h =
    let k = h.0 in
    let p = stays _ _ (few (k + 1)) (h.2 0) in
    elim (ascends 0 xs) as (λ t. ascends 0 xs ≡ t → false ≡ t) [
      | true ↦ λ e. let up = ascending xs e k (k + 1) (omega arith) h.1 p.0 in absurd (omega (arith, p.1))
      | false ↦ λ e. refl
    ] refl

-- past the last atom no place is used
none_used : (xs : List ℕ) → ascends 255 xs ≡ true → used xs ≡ 0
none_used [] h = refl
none_used (x ∷ xs) h =
    let f = first 255 x xs h in
    let high = f.high in
    let here : used (x ∷ xs) ≡ 0 + used xs = ap (λ b. cond b 1 0 + used xs) (le-ltb x 255 high) in
    let top : min 255 (x + 1) ≡ 255 = omega arith in
    let rest = none_used xs (ap (λ (l : ℕ). ascends l xs) (sym top) ∙ f.rest) in
    omega arith

used_here : (x : ℕ) (xs : List ℕ) → x < 255 → used (x ∷ xs) ≡ 1 + used xs
used_here x xs l = ap (λ b. cond b 1 0 + used xs) (lt-ltb x 255 l)

used_more : (x : ℕ) (xs : List ℕ) → x < 255 → ((k : ℕ) → k < length xs → UsedAt xs k) → (k : ℕ) → k < length (x ∷ xs) → UsedAt (x ∷ xs) k
used_more x xs l rest zero lt = let here = used_here x xs l in (λ p. l, λ p. omega arith)
used_more x xs l rest (suc k) lt =
    let here = used_here x xs l in
    let r = rest k (omega arith) in
    (λ p. r.0 (omega arith), λ p. let q = r.1 p in omega arith)

pub used_first : (low : ℕ) (xs : List ℕ) → ascends low xs ≡ true → (k : ℕ) → k < length xs → UsedAt xs k
used_first low [] h k lt = absurd (omega arith)
used_first low (x ∷ xs) h k lt = ⊎_elim
    (λ (l : x < 255). used_more x xs l (used_first (min 255 (x + 1)) xs (first low x xs h).rest) k lt)
    (λ (g : 255 ≤ x).
    let up = and_from _ _ (le-leb 255 x g) (first low x xs h).rest in
    let none = none_used (x ∷ xs) up in
    let past = within 255 (x ∷ xs) up (omega arith) k lt in
    (λ p. absurd (omega arith), λ p. absurd (omega arith)))
    (cases_lt x 255)

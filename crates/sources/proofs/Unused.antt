-- What inputs leave unused.
use Rattle.std.proofs.Common.{◌≡◌, ℕ, zero, suc, ◌+◌, ◌-◌, ◌*◌, ◌^◌, ◌<◌, ◌≤◌, Bool, true, false, not, eqb, List, [], ◌∷◌, length, get_or, drop, sym, refl, ap, ◌∙◌, ⊎_elim, add-zero, arith}
use Rattle.std.proofs.lemmas.List.{get_or-replicate, get_or_past, get_or-drop, length-drop}
use Rattle.std.proofs.lemmas.Bool.{and_parts, and_from, not-true, cases_lt, cond-true, eq-eqb}
use Rattle.std.specs.List.{flat_map, list_all, range_with_len}
use Rattle.plans.specs.Bits.{bit_in}
use Rattle.records.specs.Atoms.{ascends, used}
use Rattle.records.specs.Faults.{all_are}
use Rattle.records.specs.Numbers.{le4}
use Rattle.records.proofs.Ascending.{ascending, used_first}
use Rattle.records.specs.Bytes.{replicated, le4_single}
use Rattle.sources.specs.Spare.{spare_bits, spare_numbers, BitsSpare, BytesSpare}
use Rattle.sources.specs.Terms.{TermsAllowed}

abbrev clear : List ℕ → ℕ → ℕ → Bool
clear bs i n = list_all (λ k. not (bit_in bs k)) (range_with_len i n)

-- each of the bits is 0
pub clear_at : (bs : List ℕ) (i n j : ℕ) → clear bs i n ≡ true → j < n → bit_in bs (i + j) ≡ false
clear_at bs i zero j h lt = absurd (omega arith)
clear_at bs i (suc n) zero h lt = ap (bit_in bs) (add-zero i) ∙ not-true (bit_in bs i) (and_parts _ _ h).0
clear_at bs i (suc n) (suc j) h lt =
    let e : i + suc j ≡ i + 1 + j = omega arith in
    ap (bit_in bs) e ∙ clear_at bs (i + 1) n j (and_parts (not (bit_in bs i)) _ h).1 (omega arith)

-- no bit is set past those of the inputs' states
pub bits_unused : (atoms bs : List ℕ) → spare_bits atoms bs ≡ true → BitsSpare atoms bs
bits_unused atoms bs h i ge lt =
    let n = 2 ^ used atoms in
    let e : i ≡ n + (i - n) = omega arith in
    ap (bit_in bs) e ∙ clear_at bs n (256 - n) (i - n) h (omega arith)

clear_back : (bs : List ℕ) (i n : ℕ) → ((j : ℕ) → j < n → bit_in bs (i + j) ≡ false) → clear bs i n ≡ true
clear_back bs i zero f = refl
clear_back bs i (suc n) f =
    let here : bit_in bs i ≡ false = ap (bit_in bs) (sym (add-zero i)) ∙ f 0 (omega arith) in
    let next : (j : ℕ) → i + 1 + j ≡ i + suc j = λ j. omega arith in
    and_from _ _ (ap not here) (clear_back bs (i + 1) n (λ j lt. ap (bit_in bs) (next j) ∙ f (suc j) (omega arith)))

pub bits_back : (atoms bs : List ℕ) → BitsSpare atoms bs → spare_bits atoms bs ≡ true
bits_back atoms bs f = clear_back bs (2 ^ used atoms) (256 - 2 ^ used atoms) (λ j lt. f (2 ^ used atoms + j) (omega arith) (omega arith))

zero_at : (xs : List ℕ) → all_are 0 xs ≡ true → (i : ℕ) → get_or xs i 0 ≡ 0
zero_at xs h i = ⊎_elim
    (λ (l : i < length xs). ap (λ ys. get_or ys i 0) (sym (replicated 0 xs h)) ∙ get_or-replicate (length xs) i 0 0 l)
    (λ (g : length xs ≤ i). get_or_past xs i 0 g)
    (cases_lt i (length xs))

pub bytes_unused : (atoms bs : List ℕ) → spare_numbers atoms bs ≡ true → BytesSpare atoms bs
bytes_unused atoms bs h k ge lt =
    let u = 4 * used atoms in
    let e : k ≡ u + (k - u) = omega arith in
    ap (λ z. get_or bs z 0) e ∙ sym (get_or-drop u bs (k - u) 0) ∙ zero_at (drop u bs) h (k - u)

all_zero : (xs : List ℕ) → ((k : ℕ) → k < length xs → get_or xs k 0 ≡ 0) → all_are 0 xs ≡ true
all_zero [] f = refl
all_zero (x ∷ xs) f = cond-true (eqb x 0) _ _ (eq-eqb x 0 (f 0 (omega arith))) ∙ all_zero xs (λ k lt. f (suc k) (omega arith))

pub bytes_back : (atoms bs : List ℕ) → BytesSpare atoms bs → spare_numbers atoms bs ≡ true
bytes_back atoms bs f =
    let u = 4 * used atoms in
    all_zero (drop u bs) (λ k lt. get_or-drop u bs k 0 ∙ f (u + k) (omega arith) (let l = length-drop u bs in omega arith))

-- a number whose bytes are 0 is 0
zero_number : (ns : List ℕ) (u : ℕ) → ((k : ℕ) → get_or ns k 0 < 2 ^ 32) → ((i : ℕ) → get_or (drop (4 * u) (flat_map le4 ns)) i 0 ≡ 0) → (k : ℕ) → u ≤ k → get_or ns k 0 ≡ 0
zero_number [] u s f k le = refl
zero_number (n ∷ ns) zero s f zero le = le4_single n 0 (s 0) (omega arith) (λ j. f 0 j ∷ f 1 j ∷ f 2 j ∷ f 3 j ∷ [])
zero_number (n ∷ ns) zero s f (suc k) le = zero_number ns 0 (λ j. s (suc j)) (λ i. f (suc (suc (suc (suc i))))) k (omega arith)
zero_number (n ∷ ns) (suc u) s f zero le = absurd (omega arith)
zero_number (n ∷ ns) (suc u) s f (suc k) le =
    let e : suc (suc (suc (suc (4 * u)))) ≡ 4 * suc u = omega arith in
    zero_number ns u (λ j. s (suc j)) (λ i. ap (λ m. get_or (drop m (flat_map le4 (n ∷ ns))) i 0) e ∙ f i) k (omega arith)

-- inputs and numbers that keep the rules of a body
pub terms_allowed : (atoms ns : List ℕ) → ascends 0 atoms ≡ true → ((k : ℕ) → get_or ns k 0 < 2 ^ 32) → spare_numbers atoms (flat_map le4 ns) ≡ true → TermsAllowed atoms ns
terms_allowed atoms ns up s h = record {
  inputs = ascending atoms up;
  small = s;
  unused = λ k ge. zero_number ns (used atoms) s (zero_at _ h) k (past k ge);
}
  where
    inside : (k : ℕ) → 255 ≤ get_or atoms k 0 → k < length atoms
    inside k ge = ⊎_elim
        (λ (l : k < length atoms). l)
        (λ (g : length atoms ≤ k). absurd (let z = get_or_past atoms k 0 g in omega arith))
        (cases_lt k (length atoms))

    past : (k : ℕ) → 255 ≤ get_or atoms k 0 → used atoms ≤ k
    past k ge = ⊎_elim
        (λ (l : k < used atoms). absurd (let a = (used_first 0 atoms up k (inside k ge)).0 l in omega arith))
        (λ (g : used atoms ≤ k). g)
        (cases_lt k (used atoms))
